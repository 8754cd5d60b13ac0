-- Loops that add something for each element.
use Rattle.std.proofs.Common.{◌≡◌, ℕ, ◌+◌, ◌<◌, List, [], ◌∷◌, ◌++◌, length, get_or, map, drop, sym, ap, ◌∙◌, append_assoc}
use Rattle.std.specs.List.{flat_map}
use Rattle.std.proofs.lemmas.List.{map-append}
use Rattle.kilim_lemmas.proofs.Lists.{drop_at}

-- what is made of the last of the elements that are done
pub mapped_last : {X A : Type 0} (f : X → A) (now next : List A) (done : List X) (x : X) (y : A) → now ≡ map f done → y ≡ f x → next ≡ now ++ y ∷ [] → next ≡ map f (done ++ x ∷ [])
mapped_last {X} {A} f now next done x y so_far made step =
    step ∙ (ap (λ (ys : List A). ys ++ y ∷ []) so_far ∙ (ap (λ (z : A). map f done ++ z ∷ []) made ∙ sym (map-append f done (x ∷ []))))

-- what is done, before what is left
pub joined_before : {X A : Type 0} (f : X → List A) (now next : List A) (xs : List X) (i : ℕ) (x : X) → i < length xs → x ≡ get_or xs i x → next ≡ now ++ f x → now ++ flat_map f (drop i xs) ≡ flat_map f xs →
    next ++ flat_map f (drop (i + 1) xs) ≡ flat_map f xs
joined_before {X} {A} f now next xs i x lt is step so_far =
    ap (λ (ys : List A). ys ++ flat_map f (drop (i + 1) xs)) step
    ∙ (append_assoc now (f x) (flat_map f (drop (i + 1) xs)) ∙ (ap (λ (zs : List X). now ++ flat_map f zs) (sym (drop_at xs i x lt is)) ∙ so_far))
