-- Numbers in place of names.
use Rattle.std.specs.Prelude.{◌≡◌, ℕ, List, [], ◌∷◌, Option, Some}
use Rattle.kilim_link_inherited.specs.declared.entry.Entry.{Entry}
use Rattle.kilim_link_inherited.specs.declared.said.Said.{Said}

-- each name with its descriptor has its number as its key, and the value is the same
abbrev pub Keyed : (List ℕ → List ℕ → Option ℕ) → List Said → List Entry → Type 0
Keyed number [] [] = Unit {0}
Keyed number (s ∷ ss) (e ∷ es) = (number s.signature.name s.signature.descriptor ≡ Some e.key) × ((e.value ≡ s.value) × Keyed number ss es)
Keyed number (s ∷ ss) [] = ⊥
Keyed number [] (e ∷ es) = ⊥

-- the same of each class
abbrev pub AllKeyed : (List ℕ → List ℕ → Option ℕ) → List (List Said) → List (List Entry) → Type 0
AllKeyed number [] [] = Unit {0}
AllKeyed number (ss ∷ sss) (es ∷ ess) = Keyed number ss es × AllKeyed number sss ess
AllKeyed number (ss ∷ sss) [] = ⊥
AllKeyed number [] (es ∷ ess) = ⊥
