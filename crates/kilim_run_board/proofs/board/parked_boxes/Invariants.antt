use Rattle.std.specs.Prelude.{◌≤◌, drop, length}
use Rattle.kilim_run_board.specs.Board.{AreBoxes}
use Rattle.kilim_run_board.proofs.board.parked_boxes.Given as goal

abbrev pub invariant-loop-left : goal.invariant-loop-left
invariant-loop-left g l = AreBoxes g.F.Fibers.task_of (drop l.left l.waiters) l.tasks l.boxes.items × (l.left ≤ length l.waiters)

abbrev pub decreases-loop-left : goal.decreases-loop-left
decreases-loop-left g l = l.left
