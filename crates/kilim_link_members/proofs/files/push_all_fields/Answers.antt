use Rattle.std.proofs.Common.{sym}
use Rattle.kilim_link_spec.specs.Linked.{linked_field}
use Rattle.kilim_link_members.proofs.Appended.{goes_on, stops, all_in_each}
use Rattle.kilim_link_members.proofs.files.push_all_fields.Goals as goal

pub returns-in-Ok-false : goal.returns-in-Ok-false
returns-in-Ok-false c = sym (stops (λ file. file.fields) (linked_field c.args.world.now) c.args.files.now c.loop-file.file-index c.loop-file.number c.file-item.result c.loop-file.into c.push_fields.new.into c.in-Ok-false.field-0 c.loop-file-test.true c.file-item.is c.in-Ok-false.field-0-test c.in-Ok-false.ensures c.loop-file.invariant)

pub loop-file-preserved : goal.loop-file-preserved
loop-file-preserved c = goes_on (λ file. file.fields) (linked_field c.args.world.now) c.args.files.now c.loop-file.file-index c.loop-file.number c.in-Ok.n c.file-item.result c.loop-file.into c.push_fields.new.into c.in-Ok-true.field-0 c.loop-file-test.true c.file-item.is c.in-Ok.ensures c.in-Ok-true.field-0-test c.in-Ok-true.ensures c.loop-file.invariant

pub returns : goal.returns
returns c = sym (all_in_each (λ file. file.fields) (linked_field c.args.world.now) c.args.files.now c.loop-file.file-index c.loop-file.number c.loop-file.into c.loop-file-test.false c.loop-file.invariant)
