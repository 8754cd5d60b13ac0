use Rattle.std.proofs.Common.{◌≢◌, ◌<◌, ℕ}
use Rattle.std.specs.Prelude.{slice_index_or}
use Rattle.kilim_run_follow.proofs.lending.place_anywhere.Given as goal

abbrev pub invariant-loop-at : goal.invariant-loop-at
invariant-loop-at g l = (k : ℕ) (d : g.row.F.Denot) → k < l.at → g.F.Fibers.task_of (slice_index_or l.fn.ready.items k d) ≢ l.fn.task
