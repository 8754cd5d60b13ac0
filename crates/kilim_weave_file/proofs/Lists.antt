-- Lists.
use Rattle.std.proofs.Common.{◌≡◌, ℕ, zero, suc, ◌+◌, List, [], ◌∷◌, ◌++◌, drop, slice_get, Option, Some, None, refl, sym, ap, ◌∙◌, arith}
use Rattle.std.specs.List.{cons_option, filter_map, flat_map}
use Rattle.std.proofs.lemmas.List.{append-nil, append_assoc}

pub flat_map_append : {A B : Type 0} (f : A → List B) (xs ys : List A) → flat_map f (xs ++ ys) ≡ flat_map f xs ++ flat_map f ys
flat_map_append f [] ys = refl
flat_map_append f (x ∷ xs) ys = ap (λ zs. f x ++ zs) (flat_map_append f xs ys) ∙ sym (append_assoc (f x) (flat_map f xs) (flat_map f ys))

first_option : {A : Type 0} (o : Option A) (xs : List A) → cons_option o xs ≡ cons_option o [] ++ xs
first_option None xs = refl
first_option (Some x) xs = refl

-- one more
pub filter_map_last : {A B : Type 0} (f : A → Option B) (xs : List A) (x : A) → filter_map f xs ++ cons_option (f x) [] ≡ filter_map f (xs ++ x ∷ [])
filter_map_last f [] x = refl
filter_map_last f (y ∷ ys) x =
    ap (λ zs. zs ++ cons_option (f x) []) (first_option (f y) (filter_map f ys))
    ∙ (append_assoc (cons_option (f y) []) (filter_map f ys) (cons_option (f x) [])
    ∙ (ap (λ zs. cons_option (f y) [] ++ zs) (filter_map_last f ys x) ∙ sym (first_option (f y) (filter_map f (ys ++ x ∷ [])))))
