use Rattle.std.proofs.Common.{refl, ap, ◌∙◌, map}
use Rattle.kilim_program.specs.Program.{Program}
use Rattle.kilim_link_spec.specs.World.{view_of_built_in}
use Rattle.kilim_link_views.proofs.Loops.{mapped_in, taken_in}
use Rattle.kilim_link_views.proofs.built_in.views_of.Goals as goal

pub loop-class-preserved : goal.loop-class-preserved
loop-class-preserved c = mapped_in (view_of_built_in c.args.program.now) c.loop-class.views c.push_view.new.views c.as_slice-class-items.result.now c.args.program.now.classes c.loop-class.class-index c.class-item.result _ (c.as_slice-class-items.ensures ∙ ap (λ (p : Program). p.classes) c.program.view_is) c.loop-class-test.true c.class-item.is c.loop-class.invariant refl c.in-Ok.ensures

pub returns : goal.returns
returns c = c.loop-class.invariant ∙ ap (map (view_of_built_in c.args.program.now)) (taken_in c.as_slice-class-items.result.now c.args.program.now.classes c.loop-class.class-index (c.as_slice-class-items.ensures ∙ ap (λ (p : Program). p.classes) c.program.view_is) c.loop-class-test.false)
