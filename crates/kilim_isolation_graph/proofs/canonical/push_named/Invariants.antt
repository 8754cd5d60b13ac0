use Rattle.std.proofs.Common.{◌≡◌, ◌++◌, drop}
use Rattle.kilim_isolation_graph.specs.Canonical.{named}
use Rattle.kilim_isolation_graph.proofs.canonical.push_named.Given as goal

abbrev pub invariant-loop-slot : goal.invariant-loop-slot
invariant-loop-slot l = l.named ++ named (drop l.slot-index l.slots) ≡ l.fn.named ++ named l.slots
