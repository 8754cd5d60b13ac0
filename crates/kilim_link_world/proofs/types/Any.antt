-- Loops that look for an element that passes a test.
use Rattle.std.proofs.Common.{◌≡◌, ℕ, ◌+◌, ◌<◌, ◌≤◌, Bool, true, false, ◌||◌, List, length, drop, get_or, sym, ap, ◌∙◌}
use Rattle.std.specs.List.{list_any}
use Rattle.std.proofs.lemmas.List.{at_drop_all}
use Rattle.kilim_lemmas.proofs.Lists.{drop_at}

module _ {A : Type 0} (test : A → Bool) (xs : List A) (i : ℕ) where
  module _ (x : A) {r : Bool} (b : Bool) (lt : i < length xs) (is : x ≡ get_or xs i x) (answers : b ≡ test x) (so_far : list_any test (drop i xs) ≡ r) where
    here : (b || list_any test (drop (i + 1) xs)) ≡ r
    here = ap (λ (c : Bool). c || list_any test (drop (i + 1) xs)) answers ∙ (sym (ap (list_any test) (drop_at xs i x lt is)) ∙ so_far)

    pub found_at : b ≡ true → true ≡ r
    found_at t = ap (λ (c : Bool). c || list_any test (drop (i + 1) xs)) (sym t) ∙ here

    pub passed_at : b ≡ false → list_any test (drop (i + 1) xs) ≡ r
    passed_at t = ap (λ (c : Bool). c || list_any test (drop (i + 1) xs)) (sym t) ∙ here

  pub none_passes : {r : Bool} → length xs ≤ i → list_any test (drop i xs) ≡ r → false ≡ r
  none_passes le so_far = sym (at_drop_all (list_any test) xs i le) ∙ so_far
