use Rattle.std.proofs.Common.{◌≡◌}
use Rattle.kilim_isolation_paths.proofs.store.forget_all.Given as goal

abbrev pub invariant-loop-at : goal.invariant-loop-at
invariant-loop-at g l = l.entries.items ≡ l.fn.entries.items
