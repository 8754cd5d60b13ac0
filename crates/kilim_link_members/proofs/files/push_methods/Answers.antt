use Rattle.std.proofs.Common.{sym, ◌∙◌}
use Rattle.kilim_link_spec.specs.Linked.{linked_method}
use Rattle.kilim_link_members.proofs.Appended.{one_more, not_there, all_made}
use Rattle.kilim_link_members.proofs.files.push_methods.Goals as goal

pub returns-in-Ok-None : goal.returns-in-Ok-None
returns-in-Ok-None c = sym (not_there (linked_method c.args.world.now c.args.file.now c.args.class) c.as_slice-method-items.result.now c.args.file.now.methods c.loop-method.method-index c.method-item.result c.loop-method.into c.as_slice-method-items.ensures c.loop-method-test.true c.method-item.is c.loop-method.invariant (sym c.in-Ok-None.field-0-is ∙ c.in-Ok-None.ensures))

pub loop-method-preserved : goal.loop-method-preserved
loop-method-preserved c = one_more (linked_method c.args.world.now c.args.file.now c.args.class) c.as_slice-method-items.result.now c.args.file.now.methods c.loop-method.method-index c.method-item.result c.loop-method.into c.as_slice-method-items.ensures c.loop-method-test.true c.method-item.is c.loop-method.invariant c.in-Ok-Some.found c.push.new.self (sym c.in-Ok-Some.field-0-is ∙ c.in-Ok-Some.ensures) c.in-Ok.ensures.ok

pub returns : goal.returns
returns c = sym (all_made (linked_method c.args.world.now c.args.file.now c.args.class) c.as_slice-method-items.result.now c.args.file.now.methods c.loop-method.method-index c.loop-method.into c.as_slice-method-items.ensures c.loop-method-test.false c.loop-method.invariant)
