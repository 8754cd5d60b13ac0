-- Loops that append a list for each element.
use Rattle.std.proofs.Common.{◌≡◌, ℕ, ◌+◌, ◌<◌, List, [], ◌++◌, length, get_or, take, sym, ap, ◌∙◌}
use Rattle.std.specs.List.{flat_map}
use Rattle.std.proofs.lemmas.List.{take_more, flat_map_more}

module _ {X A : Type 0} (f : X → List A) where
  pub behind : (before now next : List A) (xs : List X) (i : ℕ) (x d : X) → i < length xs → x ≡ get_or xs i d → now ≡ before ++ flat_map f (take i xs) → next ≡ now ++ f x → next ≡ before ++ flat_map f (take (i + 1) xs)
  behind before now next xs i x d lt is so_far step =
      step ∙ (ap (λ ys. ys ++ f x) so_far ∙ (ap (λ z. (before ++ flat_map f (take i xs)) ++ f z) is ∙ (flat_map_more f before (take i xs) (get_or xs i d) ∙ ap (λ ys. before ++ flat_map f ys) (sym (take_more xs i d lt)))))

  pub joined : (now next : List A) (xs : List X) (i : ℕ) (x d : X) → i < length xs → x ≡ get_or xs i d → now ≡ flat_map f (take i xs) → next ≡ now ++ f x → next ≡ flat_map f (take (i + 1) xs)
  joined now next xs i x d lt is so_far step = behind [] now next xs i x d lt is so_far step
