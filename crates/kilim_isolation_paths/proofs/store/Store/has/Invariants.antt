use Rattle.std.proofs.Common.{◌<◌, ℕ, slice_get, Some, ◌≢◌}
use Rattle.kilim_isolation_paths.specs.Search.{states_at}
use Rattle.kilim_isolation_paths.proofs.store.Store.has.Given as goal

-- none of the states so far is this one
abbrev pub invariant-loop-k : goal.invariant-loop-k
invariant-loop-k g l = (j : ℕ) → j < l.k-index → slice_get (states_at l.place l.self.entries) j ≢ Some l.state
