use Rattle.std.proofs.Common.{◌≡◌, ◌<◌, ℕ}
use Rattle.kilim_class_pool.specs.Entries.{entry_at}
use Rattle.kilim_class_making.proofs.pools.same_pools.Given as goal

abbrev pub invariant-loop-index : goal.invariant-loop-index
invariant-loop-index l = (k : ℕ) → k < l.index → entry_at l.one k ≡ entry_at l.other k
