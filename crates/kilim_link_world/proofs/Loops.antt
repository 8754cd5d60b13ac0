-- Loops that append something for each element.
use Rattle.std.proofs.Common.{◌≡◌, ℕ, ◌+◌, ◌<◌, ◌≤◌, List, [], ◌∷◌, ◌++◌, length, get_or, map, take, sym, ap, ◌∙◌}
use Rattle.std.proofs.lemmas.List.{map_more, take_all}

module _ {X A : Type 0} (f : X → A) where
  pub mapped : (now next : List A) (xs : List X) (i : ℕ) (x d : X) (y : A) → i < length xs → x ≡ get_or xs i d → now ≡ map f (take i xs) → y ≡ f x → next ≡ now ++ y ∷ [] → next ≡ map f (take (i + 1) xs)
  mapped now next xs i x d y lt is so_far made step =
      step ∙ (ap (λ ys. ys ++ y ∷ []) so_far ∙ (ap (λ z. map f (take i xs) ++ z ∷ []) (made ∙ ap f is) ∙ sym (map_more f xs i d lt)))

  -- no element is left
  pub all_mapped : (now : List A) (xs : List X) (i : ℕ) → length xs ≤ i → now ≡ map f (take i xs) → now ≡ map f xs
  all_mapped now xs i le so_far = so_far ∙ ap (map f) (take_all i xs le)
