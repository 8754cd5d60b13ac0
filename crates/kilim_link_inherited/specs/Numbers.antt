-- Signatures by numbers.
use Rattle.std.specs.Prelude.{◌≡◌, ◌<◌, ◌^◌, ℕ, List, Option, Some}
use Rattle.std.specs.BTreeMap.{BTreeMap, get}
use Rattle.kilim_link_inherited.specs.declared.signature.Signature.{Signature}
use Rattle.kilim_link_inherited.specs.Index.{signature_cmp}

-- the number of a name with its descriptor in a map
abbrev pub number_at : BTreeMap Signature ℕ → List ℕ → List ℕ → Option ℕ
number_at places name descriptor = get signature_cmp places (record { name = name; descriptor = descriptor })

-- no two have one number
abbrev pub Apart : (List ℕ → List ℕ → Option ℕ) → Type 0
Apart number = (name descriptor name2 descriptor2 : List ℕ) (k : ℕ) → number name descriptor ≡ Some k → number name2 descriptor2 ≡ Some k → (name ≡ name2) × (descriptor ≡ descriptor2)

-- each number is less
abbrev pub AllBelow : (List ℕ → List ℕ → Option ℕ) → ℕ → Type 0
AllBelow number bound = (name descriptor : List ℕ) (k : ℕ) → number name descriptor ≡ Some k → k < bound

-- those of a map are apart, and less than the next one, which fits
pub record Numbered (places : BTreeMap Signature ℕ) (next : ℕ) : Type 0 where
  pub apart : Apart (number_at places)
  pub below : AllBelow (number_at places) next
  pub fits : next < 2 ^ 32

-- numbers that have been given stay
abbrev pub Keeps : (List ℕ → List ℕ → Option ℕ) → (List ℕ → List ℕ → Option ℕ) → Type 0
Keeps before after = (name descriptor : List ℕ) (k : ℕ) → before name descriptor ≡ Some k → after name descriptor ≡ Some k
