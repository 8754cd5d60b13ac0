use Rattle.std.proofs.Common.{refl, ◌∙◌, ap, map}
use Rattle.kilim_link_spec.specs.World.{declared_field}
use Rattle.kilim_link_views.proofs.Loops.{mapped_in, taken_in}
use Rattle.kilim_link_views.proofs.members.declared_fields.Goals as goal

pub loop-field-preserved : goal.loop-field-preserved
loop-field-preserved c = mapped_in (declared_field c.args.file.now) c.loop-field.fields c.push_declared_field.new.fields c.as_slice-field-items.result.now c.args.file.now.fields c.loop-field.field-index c.field-item.result _ c.as_slice-field-items.ensures c.loop-field-test.true c.field-item.is c.loop-field.invariant refl c.in-Ok.ensures

pub returns : goal.returns
returns c = c.loop-field.invariant ∙ ap (map (declared_field c.args.file.now)) (taken_in c.as_slice-field-items.result.now c.args.file.now.fields c.loop-field.field-index c.as_slice-field-items.ensures c.loop-field-test.false)
