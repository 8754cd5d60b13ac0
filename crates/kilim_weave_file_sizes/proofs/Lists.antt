-- Lists.
use Rattle.std.proofs.Common.{◌≡◌, List, [], ◌∷◌, ◌++◌, refl, sym, ap, ◌∙◌}
use Rattle.std.specs.List.{flat_map}
use Rattle.std.proofs.lemmas.List.{append-nil, append_assoc}

pub flat_map_append : {A B : Type 0} (f : A → List B) (xs ys : List A) → flat_map f (xs ++ ys) ≡ flat_map f xs ++ flat_map f ys
flat_map_append f [] ys = refl
flat_map_append f (x ∷ xs) ys = ap (λ zs. f x ++ zs) (flat_map_append f xs ys) ∙ sym (append_assoc (f x) (flat_map f xs) (flat_map f ys))

pub flat_map_last : {A B : Type 0} (f : A → List B) (old : List B) (xs : List A) (x : A) → (old ++ flat_map f xs) ++ f x ≡ old ++ flat_map f (xs ++ x ∷ [])
flat_map_last f old xs x = append_assoc old (flat_map f xs) (f x) ∙ ap (λ zs. old ++ zs) (ap (λ zs. flat_map f xs ++ zs) (sym (append-nil (f x))) ∙ sym (flat_map_append f xs (x ∷ [])))
