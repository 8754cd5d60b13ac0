-- What a lookup in a list answers.
use Rattle.std.proofs.Common.{◌≡◌, ℕ, zero, suc, ◌<◌, ◌≤◌, List, [], ◌∷◌, length, Option, None, Some, sym, ap, ◌∙◌, arith}
use Rattle.std.specs.Prelude.{MatchOption, slice_get, slice_index_or}
use Rattle.std.specs.Option.{option_map}
use Rattle.std.specs.List.{HoldsAt}
use Rattle.std.proofs.lemmas.Option.{slice_get_past}

there : {X : Type 0} (x : X) (xs : List X) (i : ℕ) → i < length xs → ((d : X) → x ≡ slice_index_or xs i d) → Some x ≡ slice_get xs i
there x [] i lt h = absurd (omega arith)
there x (y ∷ xs) zero lt h = ap (λ z. Some z) (h x)
there x (y ∷ xs) (suc i) lt h = there x xs i (omega arith) h

got : {X R : Type 0} (r : Option R) (now : R → X) (xs : List X) (i : ℕ) → MatchOption r (length xs ≤ i) (λ x. (i < length xs) × HoldsAt (λ y. now x ≡ y) xs i) → option_map now r ≡ slice_get xs i
got None now xs i h = sym (slice_get_past xs i h)
got (Some x) now xs i h = there (now x) xs i h.0 h.1

-- where it is known what was found
pub got_as : {X R : Type 0} (r o : Option R) (now : R → X) (xs : List X) (i : ℕ) → r ≡ o → MatchOption r (length xs ≤ i) (λ x. (i < length xs) × HoldsAt (λ y. now x ≡ y) xs i) → option_map now o ≡ slice_get xs i
got_as r o now xs i is h = sym (ap (option_map now) is) ∙ got r now xs i h
