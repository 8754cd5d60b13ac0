-- Loops that ask whether some element passes a test.
use Rattle.std.proofs.Common.{◌≡◌, ℕ, suc, ◌+◌, ◌<◌, Bool, true, false, ◌||◌, List, length, get_or, drop, drop-cons, sym, ap, ◌∙◌, add-one}
use Rattle.std.specs.List.{list_any}

module _ {A : Type 0} (test : A → Bool) (xs : List A) (i : ℕ) (x d : A) {whole : Bool} (lt : i < length xs) (is : x ≡ get_or xs i d) where
  some_here : (b : Bool) → b ≡ test x → list_any test (drop i xs) ≡ whole → (b || list_any test (drop (suc i) xs)) ≡ whole
  some_here b answers so_far = ap (λ (c : Bool). c || list_any test (drop (suc i) xs)) (answers ∙ ap test is) ∙ (sym (ap (list_any test) (drop-cons xs i d lt)) ∙ so_far)

  pub found_at : true ≡ test x → list_any test (drop i xs) ≡ whole → true ≡ whole
  found_at t so_far = some_here true t so_far

  pub passed_at : false ≡ test x → list_any test (drop i xs) ≡ whole → list_any test (drop (i + 1) xs) ≡ whole
  passed_at t so_far = rw add-one (some_here false t so_far)
