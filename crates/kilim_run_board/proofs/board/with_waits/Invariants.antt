use Rattle.std.proofs.Common.{◌≡◌, ◌++◌}
use Rattle.kilim_run_board.specs.Board.{closing}
use Rattle.kilim_run_board.proofs.board.with_waits.Given as goal

abbrev pub invariant-loop-t : goal.invariant-loop-t
invariant-loop-t g l = l.entries ≡ l.fn.journal.items ++ closing g.F.Fibers.task_of l.waiters 0 l.t
