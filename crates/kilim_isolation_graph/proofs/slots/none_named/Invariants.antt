use Rattle.std.proofs.Common.{◌≡◌, take, replicate, None}
use Rattle.kilim_isolation_graph.proofs.slots.none_named.Given as goal

abbrev pub invariant-loop-slot : goal.invariant-loop-slot
invariant-loop-slot l = take l.slot-index l.slots ≡ replicate l.slot-index None
