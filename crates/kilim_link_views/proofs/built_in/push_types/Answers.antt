use Rattle.std.proofs.Common.{refl, ◌∙◌, ap, ◌++◌}
use Rattle.kilim_program.specs.Names.{descriptor}
use Rattle.kilim_link_views.proofs.Loops.{behind}
use Rattle.std.proofs.lemmas.List.{take_all}
use Rattle.std.specs.List.{flat_map}
use Rattle.kilim_link_views.proofs.built_in.push_types.Goals as goal

pub loop-ty-preserved : goal.loop-ty-preserved
loop-ty-preserved c = behind (descriptor c.args.program.now) c.args.text.now.items c.loop-ty.text.items c.push_type.new.text.items c.args.types.now c.loop-ty.ty-index _ _ c.loop-ty-test.true refl c.loop-ty.invariant c.in-Ok.ensures

pub returns : goal.returns
returns c = c.loop-ty.invariant ∙ ap (λ xs. c.args.text.now.items ++ flat_map (descriptor c.args.program.now) xs) (take_all c.loop-ty.ty-index c.args.types.now c.loop-ty-test.false)
