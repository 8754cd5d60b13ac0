use Rattle.std.proofs.Common.{◌≡◌, ◌+◌, ◌-◌, ◌++◌, length, replicate, None}
use Rattle.kilim_isolation_graph.specs.Graphs.{with_slot}
use Rattle.kilim_isolation_graph.proofs.slots.set_front.Given as goal

abbrev pub invariant-loop-front : goal.invariant-loop-front
invariant-loop-front l = with_slot (l.front.items ++ replicate l.left None) l.at l.name ≡ with_slot (l.initial.front.items ++ replicate l.more None) l.at l.name

abbrev pub decreases-loop-front : goal.decreases-loop-front
decreases-loop-front l = (l.at + 1) - length l.front.items
