use Rattle.std.proofs.Common.{◌≡◌, ℕ, ◌<◌, ◌≤◌, false}
use Rattle.kilim_class_pool.specs.Entries.{entry_at}
use Rattle.kilim_class_making.specs.pool_needs.Adding.{is_class_of}
use Rattle.kilim_class_making.proofs.pool_needs.lookup.find_class.Given as goal

abbrev pub invariant-loop-index : goal.invariant-loop-index
invariant-loop-index l = (k : ℕ) → 1 ≤ k → k < l.index → is_class_of l.pool l.name (entry_at l.pool k) ≡ false
