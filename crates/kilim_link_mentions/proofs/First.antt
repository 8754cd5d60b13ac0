-- A loop that looks for the first of what is made.
use Rattle.std.proofs.Common.{◌≡◌, ℕ, suc, ◌+◌, ◌<◌, List, ◌∷◌, length, drop, get_or, Option, Some, None, refl, sym, ap, ◌∙◌, arith, drop-cons, subst}
use Rattle.std.specs.List.{filter_map}
use Rattle.kilim_link_spec.specs.Linked.{first_of}

rest_at : {A : Type 0} (xs : List A) (i : ℕ) (x d : A) → i < length xs → x ≡ get_or xs i d → drop i xs ≡ x ∷ drop (i + 1) xs
rest_at xs i x d lt is =
    let n : suc i ≡ i + 1 = omega arith in
    drop-cons xs i d lt ∙ (ap (λ y. y ∷ drop (suc i) xs) (sym is) ∙ ap (λ (k : ℕ). x ∷ drop k xs) n)

module _ {A B : Type 0} (make : A → Option B) where
  found : (x : A) (xs : List A) (y : B) → make x ≡ Some y → first_of (filter_map make (x ∷ xs)) ≡ Some y
  found x xs y e = rw e refl

  passed : (x : A) (xs : List A) → make x ≡ None → first_of (filter_map make (x ∷ xs)) ≡ first_of (filter_map make xs)
  passed x xs e = rw e refl

  module _ (items xs : List A) (i : ℕ) (x : A) {r : Option B} (o : Option B) (same : items ≡ xs) (lt : i < length items) (is : x ≡ get_or items i x) (answers : o ≡ make x) (so_far : first_of (filter_map make (drop i xs)) ≡ r) where
    within : i < length xs
    within = subst (λ (ys : List A). i < length ys) same lt

    at : x ≡ get_or xs i x
    at = is ∙ ap (λ (ys : List A). get_or ys i x) same

    next : first_of (filter_map make (x ∷ drop (i + 1) xs)) ≡ r
    next = sym (ap (λ ys. first_of (filter_map make ys)) (rest_at xs i x x within at)) ∙ so_far

    pub found_first : (y : B) → o ≡ Some y → Some y ≡ r
    found_first y e = sym (found x (drop (i + 1) xs) y (sym answers ∙ e)) ∙ next

    pub found_later : o ≡ None → first_of (filter_map make (drop (i + 1) xs)) ≡ r
    found_later e = sym (passed x (drop (i + 1) xs) (sym answers ∙ e)) ∙ next
