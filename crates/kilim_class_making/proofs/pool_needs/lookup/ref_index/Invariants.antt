use Rattle.std.proofs.Common.{◌≡◌, ℕ, ◌<◌, ◌≤◌, false}
use Rattle.kilim_class_pool.specs.Entries.{entry_at}
use Rattle.kilim_class_making.specs.pool_needs.Adding.{is_ref}
use Rattle.kilim_class_making.proofs.pool_needs.lookup.ref_index.Given as goal

abbrev pub invariant-loop-index : goal.invariant-loop-index
invariant-loop-index l = (k : ℕ) → 1 ≤ k → k < l.index → is_ref l.class l.member (entry_at l.pool k) ≡ false
