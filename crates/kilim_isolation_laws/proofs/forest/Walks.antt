-- No object is met twice below any object of a forest.
use Rattle.std.proofs.Common.{◌≡◌, ℕ, List, [], ◌∷◌, Option, Some, None, refl, ap, ap₂, sym, subst, ◌∙◌, ◌⊎◌, inl, inr}
use Rattle.kilim_isolation_laws.specs.forest.Heap.{Heap, Below, Here, Then, IsUnder, IsForest, walk, walk_on}
use Rattle.kilim_isolation_laws.proofs.forest.Paths.{some_is, none_is_not, joined, one_step, under_below, comparable, never_round, here_or_under}

module _ (h : Heap) (forest : IsForest h) where
  -- the first step of a walk
  pub first_step : (m : Option ℕ) (is : List ℕ) (x : ℕ) → walk_on h m is ≡ Some x → (c : ℕ) × (m ≡ Some c) × (walk h c is ≡ Some x)
  first_step None is x e = absurd (none_is_not x e)
  first_step (Some c) is x e = (c, refl, e)

  pub walk_below : (o : ℕ) (is : List ℕ) (x : ℕ) → walk h o is ≡ Some x → Below h o x
  walk_below o [] x e = Here (some_is o x e)
  walk_below o (i ∷ is) x e =
      let s = first_step (h.to o i) is x e in
      joined h o s.0 x (Then o i (Here refl) s.1) (walk_below s.0 is x s.2)

  -- two children of one object that both are above x are one child at one place
  pub one_child : (o i j c d x : ℕ) → h.to o i ≡ Some c → h.to o j ≡ Some d → Below h c d → (i ≡ j) × (c ≡ d)
  one_child o i j c d x e f (Here r) = ((forest.one c o o i j e (f ∙ ap Some (sym r))).1, r)
  one_child o i j c d x e f (Then p k b g) =
      absurd (never_round h forest o (under_below h o c o (one_step h o i c e) (subst (λ z. Below h c z) (forest.one d p o k j g f).0 b)))

  pub one_walk : (o : ℕ) (is js : List ℕ) (x : ℕ) → walk h o is ≡ Some x → walk h o js ≡ Some x → is ≡ js
  one_walk o [] [] x e f = refl
  one_walk o [] (j ∷ js) x e f = absurd (back o j js x e f)
    where
      back : (o j : ℕ) (js : List ℕ) (x : ℕ) → walk h o [] ≡ Some x → walk h o (j ∷ js) ≡ Some x → ⊥
      back o j js x e f =
          let s = first_step (h.to o j) js x f in
          never_round h forest o (under_below h o s.0 o (one_step h o j s.0 s.1) (subst (λ z. Below h s.0 z) (sym (some_is o x e)) (walk_below s.0 js x s.2)))
  one_walk o (i ∷ is) [] x e f = absurd (back o i is x f e)
    where
      back : (o j : ℕ) (js : List ℕ) (x : ℕ) → walk h o [] ≡ Some x → walk h o (j ∷ js) ≡ Some x → ⊥
      back o j js x e f =
          let s = first_step (h.to o j) js x f in
          never_round h forest o (under_below h o s.0 o (one_step h o j s.0 s.1) (subst (λ z. Below h s.0 z) (sym (some_is o x e)) (walk_below s.0 js x s.2)))
  one_walk o (i ∷ is) (j ∷ js) x e f =
      let s = first_step (h.to o i) is x e in
      let t = first_step (h.to o j) js x f in
      let same = child o i j s.0 t.0 x s.1 t.1 (walk_below s.0 is x s.2) (walk_below t.0 js x t.2) in
      ap₂ (λ k ks. k ∷ ks) same.0 (one_walk s.0 is js x s.2 (ap (λ z. walk h z js) same.1 ∙ t.2))
    where
      child : (o i j c d x : ℕ) → h.to o i ≡ Some c → h.to o j ≡ Some d → Below h c x → Below h d x → (i ≡ j) × (c ≡ d)
      child o i j c d x e f b1 b2 = elim (comparable h forest c d x b1 b2) [
        | inl down ↦ one_child o i j c d x e f down
        | inr up ↦
            let w = one_child o j i d c x f e up in
            (sym w.0, sym w.1)
      ]
