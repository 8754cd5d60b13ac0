-- Looking in a list for the first that passes a test, by what is left.
use Rattle.std.proofs.Common.{◌≡◌, ℕ, ◌+◌, ◌<◌, ◌≤◌, Bool, true, false, cond, List, [], ◌∷◌, get_or, length, drop, Option, Some, None, sym, ap, ◌∙◌}
use Rattle.std.proofs.lemmas.List.{drop_all, drop_more}

module _ {X A : Type 0} (seek : List X → Option A) (test : X → Bool) (told : X → A) (xs : List X) (i : ℕ) (so_far : seek (drop i xs) ≡ seek xs) where
  module _ (d : X) (lt : i < length xs) (unfolds : (x : X) (ys : List X) → seek (x ∷ ys) ≡ cond (test x) (Some (told x)) (seek ys)) where
    here : cond (test (get_or xs i d)) (Some (told (get_or xs i d))) (seek (drop (i + 1) xs)) ≡ seek xs
    here = sym (ap seek (drop_more xs i d lt) ∙ unfolds (get_or xs i d) (drop (i + 1) xs)) ∙ so_far

    pub goes_on : test (get_or xs i d) ≡ false → seek (drop (i + 1) xs) ≡ seek xs
    goes_on e = sym (ap (λ (b : Bool). cond b (Some (told (get_or xs i d))) (seek (drop (i + 1) xs))) e) ∙ here

    pub is_found : test (get_or xs i d) ≡ true → Some (told (get_or xs i d)) ≡ seek xs
    is_found e = sym (ap (λ (b : Bool). cond b (Some (told (get_or xs i d))) (seek (drop (i + 1) xs))) e) ∙ here

  pub is_none : seek [] ≡ None → length xs ≤ i → None ≡ seek xs
  is_none nothing le = sym nothing ∙ (sym (ap seek (drop_all i xs le)) ∙ so_far)
