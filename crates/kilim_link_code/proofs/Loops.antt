-- A loop that makes each element, and stops where one isn't there.
use Rattle.std.proofs.Common.{◌≡◌, ℕ, suc, ◌+◌, ◌<◌, ◌≤◌, List, [], ◌∷◌, ◌++◌, length, drop, get_or, Option, Some, None, refl, sym, ap, ◌∙◌, append_assoc, arith, drop-cons}
use Rattle.std.proofs.lemmas.List.{append-nil, at_drop_all}
use Rattle.kilim_link_spec.specs.Types.{each_of, with_first}
use Rattle.kilim_link_code.specs.Each.{behind}

made_then : {B : Type 0} (made : List B) (y : B) (others : Option (List B)) → behind made (with_first (Some y) others) ≡ behind (made ++ y ∷ []) others
made_then made y None = refl
made_then {B} made y (Some zs) = ap (λ (all : List B). Some all) (sym (append_assoc made (y ∷ []) zs))

rest_at : {A : Type 0} (xs : List A) (i : ℕ) (x d : A) → i < length xs → x ≡ get_or xs i d → drop i xs ≡ x ∷ drop (i + 1) xs
rest_at xs i x d lt is =
    let n : suc i ≡ i + 1 = omega arith in
    drop-cons xs i d lt ∙ (ap (λ y. y ∷ drop (suc i) xs) (sym is) ∙ ap (λ (k : ℕ). x ∷ drop k xs) n)

module _ {A B : Type 0} (make : A → Option B) (xs : List A) (i : ℕ) (x d : A) (made : List B) {total : Option (List B)} (lt : i < length xs) (is : x ≡ get_or xs i d) (so_far : behind made (each_of make (drop i xs)) ≡ total) where
  here_at : behind made (with_first (make x) (each_of make (drop (i + 1) xs))) ≡ total
  here_at = ap (λ ys. behind made (each_of make ys)) (sym (rest_at xs i x d lt is)) ∙ so_far

  pub one_more : (y : B) (new : List B) → Some y ≡ make x → new ≡ made ++ y ∷ [] → behind new (each_of make (drop (i + 1) xs)) ≡ total
  one_more y new there step =
      let others = each_of make (drop (i + 1) xs) in
      ap (λ ys. behind ys others) step ∙ (sym (made_then made y others) ∙ (ap (λ o. behind made (with_first o others)) there ∙ here_at))

  pub not_there : None ≡ make x → None ≡ total
  not_there none = ap (λ o. behind made (with_first o (each_of make (drop (i + 1) xs)))) none ∙ here_at

-- no element is left
pub all_made : {A B : Type 0} (make : A → Option B) (xs : List A) (i : ℕ) (made : List B) {total : Option (List B)} → length xs ≤ i → behind made (each_of make (drop i xs)) ≡ total → Some made ≡ total
all_made {A} {B} make xs i made le so_far =
    ap (λ (all : List B). Some all) (sym (append-nil made)) ∙ (sym (at_drop_all (λ (ys : List A). behind made (each_of make ys)) xs i le) ∙ so_far)
