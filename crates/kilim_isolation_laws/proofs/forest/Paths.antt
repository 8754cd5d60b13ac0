-- Paths in a heap.
use Rattle.std.proofs.Common.{◌≡◌, ℕ, Option, Some, None, refl, ap, sym, subst, ◌∙◌, ◌⊎◌, inl, inr, arith}
use Rattle.kilim_isolation_laws.specs.forest.Heap.{Heap, Below, Here, Then, IsUnder, Ends, Up, IsForest, IsSet_at}

pub some_is : (x y : ℕ) → Some x ≡ Some y → x ≡ y
some_is x y e = cc

pub none_is_not : (x : ℕ) → None ≡ Some x → ⊥
none_is_not x e = cc

pub joined : (h : Heap) (o x y : ℕ) → Below h o x → Below h x y → Below h o y
joined h o x y a (Here r) = subst (λ z. Below h o z) r a
joined h o x y a (Then p j b f) = Then p j (joined h o x p a b) f

pub below_of : (h : Heap) (o x : ℕ) → IsUnder h o x → Below h o x
below_of h o x u = Then u.0 u.1 u.2 u.3

pub one_step : (h : Heap) (o i x : ℕ) → h.to o i ≡ Some x → IsUnder h o x
one_step h o i x e = (o, i, Here refl, e)

pub here_or_under : (h : Heap) (o x : ℕ) → Below h o x → (o ≡ x) ⊎ IsUnder h o x
here_or_under h o x (Here e) = inl e
here_or_under h o x (Then p i b e) = inr (p, i, b, e)

pub under_below : (h : Heap) (o x y : ℕ) → IsUnder h o x → Below h x y → IsUnder h o y
under_below h o x y u (Here r) = subst (λ z. IsUnder h o z) r u
under_below h o x y u (Then p i b e) = (p, i, joined h o x p (below_of h o x u) b, e)

pub below_under : (h : Heap) (o x y : ℕ) → Below h o x → IsUnder h x y → IsUnder h o y
below_under h o x y b u = (u.0, u.1, joined h o x u.0 b u.2, u.3)

-- nothing is below itself where going up ends
pub no_circle : (h : Heap) (x : ℕ) → Ends h x → IsUnder h x x → ⊥
no_circle h x (Up {x = z} up) u = no_circle h u.0 (up u.0 u.1 u.3) (circle_of (here_or_under h z u.0 u.2))
  where
    circle_of : (z ≡ u.0) ⊎ IsUnder h z u.0 → IsUnder h u.0 u.0
    circle_of (inl e) = (u.0, u.1, Here refl, u.3 ∙ ap Some e)
    circle_of (inr v) = (v.0, v.1, joined h u.0 z v.0 (Then u.0 u.1 (Here refl) u.3) v.2, v.3)

module _ (h : Heap) (forest : IsForest h) where
  -- the ways up from one object are one way
  pub comparable : (o q x : ℕ) → Below h o x → Below h q x → Below h o q ⊎ Below h q o
  comparable o q x (Here e) b = inr (subst (λ z. Below h q z) (sym e) b)
  comparable o q x (Then p i a e) (Here r) = inl (Then p i a (e ∙ ap Some (sym r)))
  comparable o q x (Then p i a e) (Then r j b f) =
      comparable o q p a (subst (λ z. Below h q z) (sym (forest.one x p r i j e f).0) b)

  pub never_round : (x : ℕ) → IsUnder h x x → ⊥
  never_round x u = no_circle h x (forest.ends x) u

  -- who is above an object that nothing holds is that object
  pub above_top : (o x : ℕ) → ((p i : ℕ) → h.to p i ≡ Some x → ⊥) → Below h o x → o ≡ x
  above_top o x top (Here e) = e
  above_top o x top (Then p i b e) = absurd (top p i e)
