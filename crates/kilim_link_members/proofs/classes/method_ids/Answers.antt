use Rattle.kilim_program.specs.BuiltIn.{method_id}
use Rattle.kilim_link_members.proofs.Numbers.{one_more}
use Rattle.kilim_link_members.proofs.classes.method_ids.Goals as goal

pub loop-preserved : goal.loop-preserved
loop-preserved c = one_more method_id c.args.first c.loop.counter c.loop.number c.in-Ok-next.n c.loop.ids c.push.new.self c.loop.invariant.0 c.loop.invariant.1 c.in-Ok-next.ensures c.in-Ok.ensures.ok
