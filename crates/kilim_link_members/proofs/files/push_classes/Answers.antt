use Rattle.std.proofs.Common.{sym, ◌∙◌}
use Rattle.kilim_link_spec.specs.Linked.{linked_class}
use Rattle.kilim_link_members.proofs.Appended.{next_numbered, not_numbered, all_numbered}
use Rattle.kilim_link_members.proofs.files.push_classes.Goals as goal

pub returns-in-Ok-None : goal.returns-in-Ok-None
returns-in-Ok-None c = sym (not_numbered (linked_class c.args.world.now) c.args.files.now c.loop-file.file-index c.loop-file.number c.file-item.result c.loop-file.into c.loop-file-test.true c.file-item.is c.loop-file.invariant (sym c.in-Ok-None.field-0-is ∙ c.in-Ok-None.ensures))

pub loop-file-preserved : goal.loop-file-preserved
loop-file-preserved c = next_numbered (linked_class c.args.world.now) c.args.files.now c.loop-file.file-index c.loop-file.number c.file-item.result c.loop-file.into c.loop-file-test.true c.file-item.is c.loop-file.invariant c.in-Ok-next.n c.in-Ok-Some.class c.push.new.self c.in-Ok-next.ensures (sym c.in-Ok-Some.field-0-is ∙ c.in-Ok-Some.ensures) c.in-Ok.ensures.ok

pub returns : goal.returns
returns c = sym (all_numbered (linked_class c.args.world.now) c.args.files.now c.loop-file.file-index c.loop-file.number c.loop-file.into c.loop-file-test.false c.loop-file.invariant)
