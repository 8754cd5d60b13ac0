-- A test of what is made of the elements, and loops that look for one that passes it.
use Rattle.std.proofs.Common.{◌≡◌, ℕ, suc, ◌+◌, ◌<◌, Bool, true, false, ◌||◌, List, [], ◌∷◌, length, drop, get_or, map, refl, sym, ap, ◌∙◌, arith, drop-cons, subst}
use Rattle.std.specs.List.{list_any}

pub list_any-map : {A B : Type 0} (f : A → B) (test : B → Bool) (xs : List A) → list_any test (map f xs) ≡ list_any (λ x. test (f x)) xs
list_any-map f test [] = refl
list_any-map f test (x ∷ xs) = ap (λ (b : Bool). test (f x) || b) (list_any-map f test xs)

rest_at : {A : Type 0} (xs : List A) (i : ℕ) (x d : A) → i < length xs → x ≡ get_or xs i d → drop i xs ≡ x ∷ drop (i + 1) xs
rest_at xs i x d lt is =
    let n : suc i ≡ i + 1 = omega arith in
    drop-cons xs i d lt ∙ (ap (λ y. y ∷ drop (suc i) xs) (sym is) ∙ ap (λ (k : ℕ). x ∷ drop k xs) n)

module _ {A : Type 0} (test : A → Bool) (items xs : List A) (i : ℕ) (x d : A) {r : Bool} (b : Bool) (same : items ≡ xs) (lt : i < length items) (is : x ≡ get_or items i d) (answers : b ≡ test x) (so_far : list_any test (drop i xs) ≡ r) where
  here : (b || list_any test (drop (i + 1) xs)) ≡ r
  here =
      let within = subst (λ (ys : List A). i < length ys) same lt in
      let at = is ∙ ap (λ (ys : List A). get_or ys i d) same in
      ap (λ (c : Bool). c || list_any test (drop (i + 1) xs)) answers ∙ (sym (ap (list_any test) (rest_at xs i x d within at)) ∙ so_far)

  pub found_at : b ≡ true → true ≡ r
  found_at t = ap (λ (c : Bool). c || list_any test (drop (i + 1) xs)) (sym t) ∙ here

  pub passed_at : b ≡ false → list_any test (drop (i + 1) xs) ≡ r
  passed_at t = ap (λ (c : Bool). c || list_any test (drop (i + 1) xs)) (sym t) ∙ here
