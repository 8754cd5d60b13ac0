use Rattle.std.proofs.Common.{[]}
use Rattle.kilim_isolation_graph.specs.Canonical.{firsts}
use Rattle.kilim_isolation_graph.proofs.Lists.{firsts_more}
use Rattle.kilim_isolation_graph.proofs.order.firsts.Goals as goal

pub loop-number-preserved : goal.loop-number-preserved
loop-number-preserved c =
    firsts_more c.loop-number.order c.args.numbers.now c.loop-number.number-index 0 c.push_first.new.self (firsts [] c.args.numbers.now) c.loop-number-test.true c.in-Ok-push_first.ensures c.loop-number.invariant
