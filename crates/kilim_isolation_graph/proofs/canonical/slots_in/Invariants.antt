use Rattle.std.proofs.Common.{◌≡◌, take, map}
use Rattle.kilim_isolation_graph.specs.Canonical.{renumbered}
use Rattle.kilim_isolation_graph.proofs.canonical.slots_in.Given as goal

abbrev pub invariant-loop-slot : goal.invariant-loop-slot
invariant-loop-slot l = l.new ≡ map (renumbered l.order) (take l.slot-index l.slots)
