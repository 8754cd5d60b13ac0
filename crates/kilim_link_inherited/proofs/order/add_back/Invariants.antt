use Rattle.std.proofs.Common.{◌≤◌, length}
use Rattle.kilim_link_inherited.proofs.order.add_back.Given as goal

abbrev pub invariant-loop-left : goal.invariant-loop-left
invariant-loop-left l = l.left ≤ length l.line

abbrev pub decreases-loop-left : goal.decreases-loop-left
decreases-loop-left l = l.left
