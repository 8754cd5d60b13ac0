use Rattle.std.proofs.Common.{Some, refl, arith}
use Rattle.kilim_isolation.proofs.Loops.{mapped_end, mapped_on}
use Rattle.kilim_isolation.proofs.exits.of_table.Goals as goal

pub loop-to-preserved : goal.loop-to-preserved
loop-to-preserved c = mapped_on Some c.loop-to.exits c.push.new.self _ c.args.targets.now c.loop-to.to-index _ 0 _ c.loop-to-test.true refl c.loop-to.invariant refl c.in-Ok-push.ensures.ok

pub returns : goal.returns
returns c = mapped_end Some c.loop-to.exits _ c.args.targets.now c.loop-to.to-index (omega arith) c.loop-to.invariant
