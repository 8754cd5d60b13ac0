-- The flow edges of a method as a list of pairs of places.
use Rattle.std.specs.Prelude.{◌≡◌, ◌⊎◌, ℕ, ◌<◌, List, [], ◌∷◌}
use Rattle.kilim_program.specs.declared.class.Method.{Method}
use Rattle.kilim_type_spec.specs.Paths.{EdgeKind, IsEdge}

-- the pair is in the list
abbrev pub Has : List (ℕ × ℕ) → (from to : ℕ) → Type 0
Has [] from to = ⊥
Has (pair ∷ pairs) from to = ((pair.0 ≡ from) × (pair.1 ≡ to)) ⊎ Has pairs from to

-- by the place that is left, then by the one that is reached
abbrev pub IsBefore : ℕ × ℕ → ℕ × ℕ → Type 0
IsBefore a b = (a.0 < b.0) ⊎ ((a.0 ≡ b.0) × (a.1 < b.1))

abbrev pub IsBeforeAll : ℕ × ℕ → List (ℕ × ℕ) → Type 0
IsBeforeAll a [] = Unit {0}
IsBeforeAll a (b ∷ bs) = IsBefore a b × IsBeforeAll a bs

-- each pair is before all later ones
abbrev pub Increases : List (ℕ × ℕ) → Type 0
Increases [] = Unit {0}
Increases (pair ∷ pairs) = IsBeforeAll pair pairs × Increases pairs

-- an edge of some kind leads from a place to another
abbrev pub Leads : Method → (from to : ℕ) → Type 0
Leads m from to = (kind : EdgeKind) × IsEdge m (record { from = from; to = to; kind = kind })

-- the list has the pairs of places that an edge connects, in increasing order, and no others
pub record AreEdges (m : Method) (pairs : List (ℕ × ℕ)) : Type 0 where
  pub increases : Increases pairs
  pub sound : (from to : ℕ) → Has pairs from to → Leads m from to
  pub complete : (from to : ℕ) → Leads m from to → Has pairs from to
