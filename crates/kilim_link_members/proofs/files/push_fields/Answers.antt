use Rattle.std.proofs.Common.{sym, ◌∙◌}
use Rattle.kilim_link_spec.specs.Linked.{linked_field}
use Rattle.kilim_link_members.proofs.Appended.{one_more, not_there, all_made}
use Rattle.kilim_link_members.proofs.files.push_fields.Goals as goal

pub returns-in-Ok-None : goal.returns-in-Ok-None
returns-in-Ok-None c = sym (not_there (linked_field c.args.world.now c.args.file.now c.args.class) c.as_slice-field-items.result.now c.args.file.now.fields c.loop-field.field-index c.field-item.result c.loop-field.into c.as_slice-field-items.ensures c.loop-field-test.true c.field-item.is c.loop-field.invariant (sym c.in-Ok-None.field-0-is ∙ c.in-Ok-None.ensures))

pub loop-field-preserved : goal.loop-field-preserved
loop-field-preserved c = one_more (linked_field c.args.world.now c.args.file.now c.args.class) c.as_slice-field-items.result.now c.args.file.now.fields c.loop-field.field-index c.field-item.result c.loop-field.into c.as_slice-field-items.ensures c.loop-field-test.true c.field-item.is c.loop-field.invariant c.in-Ok-Some.found c.push.new.self (sym c.in-Ok-Some.field-0-is ∙ c.in-Ok-Some.ensures) c.in-Ok.ensures.ok

pub returns : goal.returns
returns c = sym (all_made (linked_field c.args.world.now c.args.file.now c.args.class) c.as_slice-field-items.result.now c.args.file.now.fields c.loop-field.field-index c.loop-field.into c.as_slice-field-items.ensures c.loop-field-test.false c.loop-field.invariant)
