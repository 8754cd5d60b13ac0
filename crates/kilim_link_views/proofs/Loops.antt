-- Loops that append something for each element.
use Rattle.std.proofs.Common.{◌≡◌, ℕ, ◌+◌, ◌<◌, List, [], ◌∷◌, ◌++◌, length, get_or, map, take, drop, sym, ap, ◌∙◌, subst, ◌≤◌}
use Rattle.std.specs.List.{flat_map}
use Rattle.std.proofs.lemmas.List.{take_more, take_all, map_more, flat_map_more, at_drop_all}

module _ {X A : Type 0} (f : X → A) (now next : List A) where
  pub mapped : (xs : List X) (i : ℕ) (x d : X) (y : A) → i < length xs → x ≡ get_or xs i d → now ≡ map f (take i xs) → y ≡ f x → next ≡ now ++ y ∷ [] → next ≡ map f (take (i + 1) xs)
  mapped xs i x d y lt is so_far made step =
      step ∙ (ap (λ ys. ys ++ y ∷ []) so_far ∙ (ap (λ z. map f (take i xs) ++ z ∷ []) (made ∙ ap f is) ∙ sym (map_more f xs i d lt)))

  pub mapped_in : (items xs : List X) (i : ℕ) (x : X) (y : A) → items ≡ xs → i < length items → x ≡ get_or items i x → now ≡ map f (take i xs) → y ≡ f x → next ≡ now ++ y ∷ [] → next ≡ map f (take (i + 1) xs)
  mapped_in items xs i x y same lt is so_far made step =
      mapped xs i x x y (subst (λ (ys : List X). i < length ys) same lt) (is ∙ ap (λ (ys : List X). get_or ys i x) same) so_far made step

module _ {X A : Type 0} (f : X → List A) where
  pub behind : (before now next : List A) (xs : List X) (i : ℕ) (x d : X) → i < length xs → x ≡ get_or xs i d → now ≡ before ++ flat_map f (take i xs) → next ≡ now ++ f x → next ≡ before ++ flat_map f (take (i + 1) xs)
  behind before now next xs i x d lt is so_far step =
      step ∙ (ap (λ ys. ys ++ f x) so_far ∙ (ap (λ z. (before ++ flat_map f (take i xs)) ++ f z) is ∙ (flat_map_more f before (take i xs) (get_or xs i d) ∙ ap (λ ys. before ++ flat_map f ys) (sym (take_more xs i d lt)))))

  pub joined_in : (now next : List A) (items xs : List X) (i : ℕ) (x : X) → items ≡ xs → i < length items → x ≡ get_or items i x → now ≡ flat_map f (take i xs) → next ≡ now ++ f x → next ≡ flat_map f (take (i + 1) xs)
  joined_in now next items xs i x same lt is so_far step =
      behind [] now next xs i x x (subst (λ (ys : List X). i < length ys) same lt) (is ∙ ap (λ (ys : List X). get_or ys i x) same) so_far step

-- no element is left
pub taken_in : {X : Type 0} (items xs : List X) (i : ℕ) → items ≡ xs → length items ≤ i → take i xs ≡ xs
taken_in {X} items xs i same le = take_all i xs (subst (λ (ys : List X). length ys ≤ i) same le)

pub dropped_in : {X Y : Type 0} (f : List X → Y) (items xs : List X) (i : ℕ) → items ≡ xs → length items ≤ i → f (drop i xs) ≡ f []
dropped_in {X} f items xs i same le = at_drop_all f xs i (subst (λ (ys : List X). length ys ≤ i) same le)
