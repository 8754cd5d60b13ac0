use Rattle.std.proofs.Common.{arith}
use Rattle.kilim_isolation_graph.specs.Canonical.{renumbered}
use Rattle.kilim_isolation_graph.proofs.Loops.{mapped, mapped_all}
use Rattle.kilim_isolation_graph.proofs.canonical.slots_in.Goals as goal

pub loop-slot-preserved : goal.loop-slot-preserved
loop-slot-preserved c = mapped (renumbered c.args.order.now) c.loop-slot.new c.push.new.self c.args.slots.now c.loop-slot.slot-index _ _ c.loop-slot-test.true c.loop-slot.invariant c.renumbered.ensures c.in-Ok.ensures.ok

pub returns : goal.returns
returns c = mapped_all (renumbered c.args.order.now) c.loop-slot.new c.args.slots.now c.loop-slot.slot-index (omega arith) c.loop-slot.invariant
