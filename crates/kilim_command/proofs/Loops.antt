-- Loops that add something for each element.
use Rattle.std.proofs.Common.{◌≡◌, ℕ, ◌+◌, ◌<◌, List, [], ◌∷◌, ◌++◌, length, get_or, map, take, sym, ap, ◌∙◌}
use Rattle.std.specs.List.{flat_map}
use Rattle.std.proofs.lemmas.List.{take_more, map_more, flat_map_more}

behind : {X A : Type 0} (f : X → List A) (before now next : List A) (xs : List X) (i : ℕ) (x : X) → i < length xs → x ≡ get_or xs i x → now ≡ before ++ flat_map f (take i xs) → next ≡ now ++ f x → next ≡ before ++ flat_map f (take (i + 1) xs)
behind f before now next xs i x lt is so_far step =
    step ∙ (ap (λ ys. ys ++ f x) so_far ∙ (ap (λ z. (before ++ flat_map f (take i xs)) ++ f z) is ∙ (flat_map_more f before (take i xs) (get_or xs i x) ∙ ap (λ ys. before ++ flat_map f ys) (sym (take_more xs i x lt)))))

pub joined : {X A : Type 0} (f : X → List A) (now next : List A) (xs : List X) (i : ℕ) (x : X) → i < length xs → x ≡ get_or xs i x → now ≡ flat_map f (take i xs) → next ≡ now ++ f x → next ≡ flat_map f (take (i + 1) xs)
joined f now next xs i x lt is so_far step = behind f [] now next xs i x lt is so_far step
