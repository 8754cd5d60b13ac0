-- Loops that append one thing for each element.
use Rattle.std.proofs.Common.{◌≡◌, ℕ, ◌+◌, ◌<◌, List, [], ◌∷◌, ◌++◌, length, get_or, map, take, sym, ap, ◌∙◌, append_assoc}
use Rattle.std.proofs.lemmas.List.{take_more, map_more}

pub mapped : {X A : Type 0} (f : X → A) (before now next : List A) (xs : List X) (i : ℕ) (d : X) (y : A) → i < length xs
    → now ≡ before ++ map f (take i xs) → y ≡ f (get_or xs i d) → next ≡ now ++ y ∷ [] → next ≡ before ++ map f (take (i + 1) xs)
mapped f before now next xs i d y lt so_far made step =
    step ∙ (ap (λ ys. ys ++ y ∷ []) so_far ∙ (ap (λ z. (before ++ map f (take i xs)) ++ z ∷ []) made ∙ (append_assoc before (map f (take i xs)) (f (get_or xs i d) ∷ []) ∙ ap (λ ys. before ++ ys) (sym (map_more f xs i d lt)))))

pub copied : {A : Type 0} (now next xs : List A) (i : ℕ) (d y : A) → i < length xs → now ≡ take i xs → y ≡ get_or xs i d → next ≡ now ++ y ∷ [] → next ≡ take (i + 1) xs
copied now next xs i d y lt so_far made step =
    step ∙ (ap (λ ys. ys ++ y ∷ []) so_far ∙ (ap (λ z. take i xs ++ z ∷ []) made ∙ sym (take_more xs i d lt)))
