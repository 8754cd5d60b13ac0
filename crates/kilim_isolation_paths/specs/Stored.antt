-- What a store shows: its entries in order, and for each place below size which of them stand there
use Rattle.std.specs.Prelude.{◌≡◌, ℕ, suc, List, [], ◌∷◌, Some, slice_get, cond, nat_eq, Vec}
use Rattle.std.specs.declared.alloc.Global.{Global}
use Rattle.kilim_isolation_paths.specs.declared.store.Reached.{Reached}

pub record Stored (S : Type 0) : Type 0 where
  pub entries : List (Reached S)
  pub size : ℕ

-- where the entries of the place stand, counted from n
abbrev pub positions : {S : Type 0} → ℕ → ℕ → List (Reached S) → List ℕ
positions q n [] = []
positions q n (e ∷ es) = cond (nat_eq e.place q) (n ∷ positions q (suc n) es) (positions q (suc n) es)

abbrev pub AreRows : {S : Type 0} → List (Reached S) → List (Vec ℕ Global) → Type 0
AreRows es rows = (q : ℕ) (row : Vec ℕ Global) → slice_get rows q ≡ Some row → row.items ≡ positions q 0 es
