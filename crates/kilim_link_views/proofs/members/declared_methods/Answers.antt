use Rattle.kilim_link_spec.specs.World.{declared_method}
use Rattle.kilim_link_views.proofs.Loops.{mapped_in, taken_in}
use Rattle.std.proofs.Common.{refl, ◌∙◌, ap, map}
use Rattle.kilim_link_views.proofs.members.declared_methods.Goals as goal

pub loop-method-preserved : goal.loop-method-preserved
loop-method-preserved c = mapped_in (declared_method c.args.file.now) c.loop-method.methods c.push_declared_method.new.methods c.as_slice-method-items.result.now c.args.file.now.methods c.loop-method.method-index c.method-item.result _ c.as_slice-method-items.ensures c.loop-method-test.true c.method-item.is c.loop-method.invariant refl c.in-Ok.ensures

pub returns : goal.returns
returns c = c.loop-method.invariant ∙ ap (map (declared_method c.args.file.now)) (taken_in c.as_slice-method-items.result.now c.args.file.now.methods c.loop-method.method-index c.as_slice-method-items.ensures c.loop-method-test.false)
