-- Loops that look for an element.
use Rattle.std.proofs.Common.{◌≡◌, ℕ, suc, ◌+◌, ◌<◌, Bool, true, false, ◌||◌, List, length, get_or, drop, drop-cons, add-one, sym, ap, ◌∙◌}
use Rattle.std.specs.List.{list_any}

module _ {A : Type 0} (test : A → Bool) (xs : List A) (i : ℕ) (x : A) {whole : Bool} (b : Bool) (lt : i < length xs) (is : x ≡ get_or xs i x) (answers : b ≡ test x) (so_far : list_any test (drop i xs) ≡ whole) where
  here : (b || list_any test (drop (suc i) xs)) ≡ whole
  here = ap (λ (c : Bool). c || list_any test (drop (suc i) xs)) (answers ∙ ap test is) ∙ (sym (ap (list_any test) (drop-cons xs i x lt)) ∙ so_far)

  pub found_at : b ≡ true → true ≡ whole
  found_at t = ap (λ (c : Bool). c || list_any test (drop (suc i) xs)) (sym t) ∙ here

  pub passed_at : b ≡ false → list_any test (drop (i + 1) xs) ≡ whole
  passed_at t = rw add-one (ap (λ (c : Bool). c || list_any test (drop (suc i) xs)) (sym t) ∙ here)
