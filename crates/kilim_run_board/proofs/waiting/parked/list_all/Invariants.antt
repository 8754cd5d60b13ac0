use Rattle.std.proofs.Common.{◌≡◌, ◌++◌}
use Rattle.std.specs.VecDeque.{deque_items}
use Rattle.kilim_run_board.specs.waiting.Parked.{in_order}
use Rattle.kilim_run_board.proofs.waiting.parked.list_all.Given as goal

abbrev pub invariant-loop-key : goal.invariant-loop-key
invariant-loop-key g l = l.waiters.items ++ in_order deque_items l.key-iterator ≡ in_order deque_items l.fn.queues.entries
