-- A loop that looks for the first of what is made.
use Rattle.std.proofs.Common.{◌≡◌, ℕ, ◌+◌, ◌<◌, ◌≤◌, List, ◌∷◌, length, drop, get_or, Option, Some, None, refl, sym, ap, ◌∙◌}
use Rattle.std.specs.List.{filter_map}
use Rattle.std.proofs.lemmas.List.{at_drop_all}
use Rattle.kilim_link_spec.specs.Linked.{first_of}
use Rattle.kilim_link_members.proofs.Appended.{rest_at}

module _ {A B : Type 0} (make : A → Option B) where
  found : (x : A) (xs : List A) (y : B) → make x ≡ Some y → first_of (filter_map make (x ∷ xs)) ≡ Some y
  found x xs y e = rw e refl

  passed : (x : A) (xs : List A) → make x ≡ None → first_of (filter_map make (x ∷ xs)) ≡ first_of (filter_map make xs)
  passed x xs e = rw e refl

  module _ (xs : List A) (i : ℕ) (x d : A) {r : Option B} (o : Option B) (lt : i < length xs) (is : x ≡ get_or xs i d) (answers : o ≡ make x) (so_far : first_of (filter_map make (drop i xs)) ≡ r) where
    next : first_of (filter_map make (x ∷ drop (i + 1) xs)) ≡ r
    next = sym (ap (λ ys. first_of (filter_map make ys)) (rest_at xs i x d lt is)) ∙ so_far

    pub found_first : (y : B) → o ≡ Some y → Some y ≡ r
    found_first y e = sym (found x (drop (i + 1) xs) y (sym answers ∙ e)) ∙ next

    pub found_later : o ≡ None → first_of (filter_map make (drop (i + 1) xs)) ≡ r
    found_later e = sym (passed x (drop (i + 1) xs) (sym answers ∙ e)) ∙ next

pub none_found : {A B : Type 0} (make : A → Option B) (xs : List A) (i : ℕ) {r : Option B} → length xs ≤ i → first_of (filter_map make (drop i xs)) ≡ r → None ≡ r
none_found {A} make xs i le so_far = sym (at_drop_all (λ (ys : List A). first_of (filter_map make ys)) xs i le) ∙ so_far
