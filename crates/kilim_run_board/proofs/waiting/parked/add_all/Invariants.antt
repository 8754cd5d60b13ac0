use Rattle.std.proofs.Common.{◌≡◌, ◌++◌}
use Rattle.kilim_run_board.specs.waiting.Parked.{at_wait}
use Rattle.kilim_run_board.proofs.waiting.parked.add_all.Given as goal

abbrev pub invariant-loop-fiber : goal.invariant-loop-fiber
invariant-loop-fiber g l = l.waiters.items ++ at_wait l.waits l.fiber-iterator.rest.items ≡ l.fn.waiters.items ++ at_wait l.waits l.fn.queue.items
