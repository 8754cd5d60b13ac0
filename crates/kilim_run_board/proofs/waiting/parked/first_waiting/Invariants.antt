use Rattle.kilim_run_board.proofs.waiting.WaitLists.{NoneWaits}
use Rattle.kilim_run_board.proofs.waiting.parked.first_waiting.Given as goal

abbrev pub invariant-loop-i : goal.invariant-loop-i
invariant-loop-i g l = NoneWaits l.waiters l.waits l.i
