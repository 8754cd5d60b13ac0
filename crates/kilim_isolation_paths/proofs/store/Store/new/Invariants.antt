use Rattle.std.proofs.Common.{◌≡◌, ℕ, slice_get, Some, length, [], Vec}
use Rattle.std.specs.declared.alloc.Global.{Global}
use Rattle.kilim_isolation_paths.proofs.store.Store.new.Given as goal

abbrev pub invariant-loop : goal.invariant-loop
invariant-loop g l = record { count : length l.rows.items ≡ l.counter; empty : (q : ℕ) (row : Vec ℕ Global) → slice_get l.rows.items q ≡ Some row → row.items ≡ [] }
