-- A loop that answers the number of the first element that passes a test.
use Rattle.std.proofs.Common.{◌≡◌, ℕ, ◌+◌, ◌<◌, ◌≤◌, suc, Bool, true, false, List, ◌∷◌, length, get_or, drop, Option, Some, None, refl, sym, ap, ◌∙◌, arith}
use Rattle.std.proofs.lemmas.List.{at_drop_all, get_or_default}
use Rattle.kilim_lemmas.proofs.Lists.{drop_at}
use Rattle.kilim_link_spec.specs.Linked.{first_of}
use Rattle.kilim_link_spec.specs.Faults.{numbers_that}

abbrev pub first_number : {A : Type 0} → (A → Bool) → ℕ → List A → Option ℕ
first_number test n xs = first_of (numbers_that test n xs)

picked : {A : Type 0} (test : A → Bool) (n : ℕ) (x : A) (xs : List A) → test x ≡ true → first_number test n (x ∷ xs) ≡ Some n
picked test n x xs t = rw t refl

skipped : {A : Type 0} (test : A → Bool) (n : ℕ) (x : A) (xs : List A) → test x ≡ false → first_number test n (x ∷ xs) ≡ first_number test (suc n) xs
skipped test n x xs t = rw t refl

module _ {A : Type 0} (test : A → Bool) (xs : List A) (i : ℕ) (d : A) (r : Option ℕ) (b : Bool) (lt : i < length xs) (answers : b ≡ test (get_or xs i d)) (so_far : first_number test i (drop i xs) ≡ r) where
  abbrev x : A
  x = get_or xs i d

  here : first_number test i (x ∷ drop (i + 1) xs) ≡ r
  here = ap (first_number test i) (sym (drop_at xs i x lt (get_or_default xs i d x lt))) ∙ so_far

  pub number_found : b ≡ true → Some i ≡ r
  number_found t = sym (picked test i x (drop (i + 1) xs) (sym answers ∙ t)) ∙ here

  pub number_passed : b ≡ false → first_number test (i + 1) (drop (i + 1) xs) ≡ r
  number_passed t =
      let k : i + 1 ≡ suc i = omega arith in
      ap (λ (n : ℕ). first_number test n (drop (i + 1) xs)) k ∙ (sym (skipped test i x (drop (i + 1) xs) (sym answers ∙ t)) ∙ here)

pub no_number : {A : Type 0} (test : A → Bool) (xs : List A) (i : ℕ) (r : Option ℕ) → length xs ≤ i → first_number test i (drop i xs) ≡ r → None ≡ r
no_number test xs i r le so_far = sym (at_drop_all (first_number test i) xs i le) ∙ so_far
