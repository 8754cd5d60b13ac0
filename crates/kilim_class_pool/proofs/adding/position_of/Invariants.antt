use Rattle.std.proofs.Common.{◌≢◌, ◌<◌, ℕ, Some}
use Rattle.kilim_class_pool.specs.Entries.{slot}
use Rattle.kilim_class_pool.proofs.adding.position_of.Given as goal

abbrev pub invariant-loop-place : goal.invariant-loop-place
invariant-loop-place l = (k : ℕ) → k < l.place → slot l.slots k ≢ Some l.entry
