-- Loops that write something for each element.
use Rattle.std.proofs.Common.{◌≡◌, ℕ, zero, suc, ◌+◌, ◌<◌, List, [], ◌∷◌, ◌++◌, length, get_or, take, sym, ap, subst, ◌∙◌, add-one, append_assoc, arith, Bool, true, false, ◌||◌, drop, drop-cons}
use Rattle.std.specs.List.{flat_map, list_any, AllByRecursion}
use Rattle.std.proofs.lemmas.List.{append-nil}
use Rattle.kilim_lemmas.proofs.Lists.{of_each}
use Rattle.kilim_lemmas.proofs.Walks.{next_text}

pub behind : {X A : Type 0} (f : X → List A) (before now next : List A) (xs : List X) (i : ℕ) (x d : X) → i < length xs → x ≡ get_or xs i d → now ≡ before ++ flat_map f (take i xs)
    → next ≡ now ++ f x → next ≡ before ++ flat_map f (take (i + 1) xs)
behind {X = X} {A = A} f before now next xs i x d lt is so_far step =
    rw add-one
    (step
    ∙ (ap (λ (t : List A). t ++ f x) so_far
    ∙ (append_assoc before (flat_map f (take i xs)) (f x) ∙ ap (λ (t : List A). before ++ t) (ap (λ (z : X). flat_map f (take i xs) ++ f z) is ∙ next_text f xs i d lt))))

-- ---- whether one passes a test

module _ {A : Type 0} (test : A → Bool) (xs : List A) (i : ℕ) (x : A) {whole : Bool} (b : Bool) (lt : i < length xs) (is : x ≡ get_or xs i x) (answers : b ≡ test x) (so_far : list_any test (drop i xs) ≡ whole) where
  here : (b || list_any test (drop (suc i) xs)) ≡ whole
  here = ap (λ (c : Bool). c || list_any test (drop (suc i) xs)) (answers ∙ ap test is) ∙ (sym (ap (list_any test) (drop-cons xs i x lt)) ∙ so_far)

  pub found_at : b ≡ true → true ≡ whole
  found_at t = ap (λ (c : Bool). c || list_any test (drop (suc i) xs)) (sym t) ∙ here

  pub passed_at : b ≡ false → list_any test (drop (i + 1) xs) ≡ whole
  passed_at t = rw add-one (ap (λ (c : Bool). c || list_any test (drop (suc i) xs)) (sym t) ∙ here)
