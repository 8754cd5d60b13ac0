use Rattle.std.proofs.Common.{◌≡◌, ◌++◌, ◌≤◌, drop, length, reverse}
use Rattle.kilim_type_step.proofs.state.push_reversed.Given as goal

abbrev pub invariant-loop-left : goal.invariant-loop-left
invariant-loop-left l = (l.left ≤ length l.types) × (l.stack.items ≡ l.fn.stack.items ++ reverse (drop l.left l.types))

abbrev pub decreases-loop-left : goal.decreases-loop-left
decreases-loop-left l = l.left
