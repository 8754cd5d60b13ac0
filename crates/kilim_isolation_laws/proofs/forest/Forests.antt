-- A place that is emptied, and an empty place that gets a tree.
use Rattle.std.proofs.Common.{◌≡◌, ℕ, Bool, true, Option, Some, None, refl, ap, sym, subst, subst₂, ◌∙◌, ◌⊎◌, inl, inr, arith}
use Rattle.kilim_isolation_laws.specs.forest.Heap.{Heap, Below, Here, Then, IsUnder, Ends, Up, IsForest, IsSet_at}
use Rattle.kilim_isolation_laws.proofs.forest.Paths.{some_is, none_is_not, joined, below_of, one_step, here_or_under, under_below, below_under, no_circle, comparable, never_round, above_top}

pub ends_fewer : (h h' : Heap) → ((p i x : ℕ) → h'.to p i ≡ Some x → h.to p i ≡ Some x) → (x : ℕ) → Ends h x → Ends h' x
ends_fewer h h' fewer x (Up {x = z} up) = Up (λ p i e. ends_fewer h h' fewer p (up p i (fewer p i z e)))

module _ (h h' : Heap) (a f : ℕ) (forest : IsForest h) (s : IsSet_at h h' a f None) where
  pub cut_edge : (p i x : ℕ) → h'.to p i ≡ Some x → h.to p i ≡ Some x
  cut_edge p i x e = elim (s.others p i) [
    | inl w ↦ absurd (none_is_not x (sym s.is ∙ subst₂ (λ q j. h'.to q j ≡ Some x) w.0 w.1 e))
    | inr same ↦ sym same ∙ e
  ]

  pub cut_path : (o x : ℕ) → Below h' o x → Below h o x
  cut_path o x (Here e) = Here e
  cut_path o x (Then p i b e) = Then p i (cut_path o p b) (cut_edge p i x e)

  pub cut_forest : IsForest h'
  cut_forest = record {
    one = λ x p q i j e g. forest.one x p q i j (cut_edge p i x e) (cut_edge q j x g);
    ends = λ x. ends_fewer h h' cut_edge x (forest.ends x);
    there = λ p i x e. (s.same p ∙ (forest.there p i x (cut_edge p i x e)).0, s.same x ∙ (forest.there p i x (cut_edge p i x e)).1);
  }

  -- an edge stays, or it was the one
  pub cut_stays : (p i x : ℕ) → h.to p i ≡ Some x → ((p ≡ a) × (i ≡ f)) ⊎ (h'.to p i ≡ Some x)
  cut_stays p i x e = elim (s.others p i) [ inl w ↦ inl w | inr same ↦ inr (same ∙ e) ]

  -- a path to what isn't below a stays
  pub cut_survives : (o x : ℕ) → (IsUnder h a x → ⊥) → Below h o x → Below h' o x
  cut_survives o x not (Here e) = Here e
  cut_survives o x not (Then p i b e) = elim (cut_stays p i x e) [
    | inl w ↦ absurd (not (p, i, Here (sym w.0), e))
    | inr e' ↦ Then p i (cut_survives o p (λ u. not (under_below h a p x u (Then p i (Here refl) e))) b) e'
  ]

  pub cut_survives_under : (o x : ℕ) → (IsUnder h a x → ⊥) → IsUnder h o x → IsUnder h' o x
  cut_survives_under o x not u = elim (cut_stays u.0 u.1 x u.3) [
    | inl w ↦ absurd (not (u.0, u.1, Here (sym w.0), u.3))
    | inr e' ↦ (u.0, u.1, cut_survives o u.0 (λ v. not (under_below h a u.0 x v (Then u.0 u.1 (Here refl) u.3))) u.2, e')
  ]

  module _ (c : ℕ) (was : h.to a f ≡ Some c) where
    -- nothing holds what was cut
    pub cut_top : (p i : ℕ) → h'.to p i ≡ Some c → ⊥
    cut_top p i e =
        let same = forest.one c p a i f (cut_edge p i c e) was in
        none_is_not c (sym s.is ∙ subst₂ (λ q j. h'.to q j ≡ Some c) same.0 same.1 e)

    -- a path below what was cut stays
    pub cut_keeps : (x : ℕ) → Below h c x → Below h' c x
    cut_keeps x (Here e) = Here e
    cut_keeps x (Then p i b e) = elim (cut_stays p i x e) [
      | inl w ↦ absurd (never_round h forest c (a, f, subst (λ z. Below h c z) w.0 b, was))
      | inr e' ↦ Then p i (cut_keeps p b) e'
    ]

    pub cut_keeps_under : (x : ℕ) → IsUnder h c x → IsUnder h' c x
    cut_keeps_under x u = elim (cut_stays u.0 u.1 x u.3) [
      | inl w ↦ absurd (never_round h forest c (a, f, subst (λ z. Below h c z) w.0 u.2, was))
      | inr e' ↦ (u.0, u.1, cut_keeps u.0 u.2, e')
    ]

module _ (h h' : Heap) (a f b : ℕ) (forest : IsForest h) (s : IsSet_at h h' a f (Some b)) (empty : h.to a f ≡ None) (top : (p i : ℕ) → h.to p i ≡ Some b → ⊥)
    (not_above : Below h b a → ⊥) (there : (h.has a ≡ true) × (h.has b ≡ true)) where
  pub join_edge : (p i x : ℕ) → h.to p i ≡ Some x → h'.to p i ≡ Some x
  join_edge p i x e = elim (s.others p i) [
    | inl w ↦ absurd (none_is_not x (sym empty ∙ subst₂ (λ q j. h.to q j ≡ Some x) w.0 w.1 e))
    | inr same ↦ same ∙ e
  ]

  pub join_back : (p i x : ℕ) → h'.to p i ≡ Some x → ((p ≡ a) × (i ≡ f) × (b ≡ x)) ⊎ (h.to p i ≡ Some x)
  join_back p i x e = elim (s.others p i) [
    | inl w ↦ inl (w.0, w.1, some_is b x (sym s.is ∙ subst₂ (λ q j. h'.to q j ≡ Some x) w.0 w.1 e))
    | inr same ↦ inr (sym same ∙ e)
  ]

  pub join_path : (o x : ℕ) → Below h o x → Below h' o x
  join_path o x (Here e) = Here e
  join_path o x (Then p i w e) = Then p i (join_path o p w) (join_edge p i x e)

  pub join_under : (o x : ℕ) → IsUnder h o x → IsUnder h' o x
  join_under o x u = (u.0, u.1, join_path o u.0 u.2, join_edge u.0 u.1 x u.3)

  pub join_splits : (o x : ℕ) → Below h' o x → Below h o x ⊎ (Below h o a) × (Below h b x)
  join_splits o x (Here e) = inl (Here e)
  join_splits o x (Then p i w e) = elim (join_back p i x e) [
    | inl new ↦ elim (join_splits o p w) [
      | inl old ↦ inr (subst (λ z. Below h o z) new.0 old, Here new.2)
      | inr both ↦ inr (both.0, Here new.2)
    ]
    | inr e' ↦ elim (join_splits o p w) [
      | inl old ↦ inl (Then p i old e')
      | inr both ↦ inr (both.0, Then p i both.1 e')
    ]
  ]

  -- going up ends: first for what isn't below b, a among them
  pub join_ends_outside : (x : ℕ) → (Below h b x → ⊥) → Ends h x → Ends h' x
  join_ends_outside x not (Up {x = z} up) = Up (λ p i e. elim (join_back p i z e) [
    | inl new ↦ absurd (not (Here new.2))
    | inr e' ↦ join_ends_outside p (λ below. not (Then p i below e')) (up p i e')
  ])

  pub join_ends : (x : ℕ) → Ends h x → Ends h' x
  join_ends x (Up {x = z} up) = Up (λ p i e. elim (join_back p i z e) [
    | inl new ↦ subst (λ q. Ends h' q) (sym new.0) (join_ends_outside a not_above (forest.ends a))
    | inr e' ↦ join_ends p (up p i e')
  ])

  pub join_forest : IsForest h'
  join_forest = record {
    one = λ x p q i j e g. join_one x p q i j (join_back p i x e) (join_back q j x g);
    ends = λ x. join_ends x (forest.ends x);
    there = λ p i x e. elim (join_back p i x e) [
      | inl new ↦ (s.same p ∙ ap h.has new.0 ∙ there.0, s.same x ∙ sym (ap h.has new.2) ∙ there.1)
      | inr e' ↦ (s.same p ∙ (forest.there p i x e').0, s.same x ∙ (forest.there p i x e').1)
    ];
  }
    where
      join_one : (x p q i j : ℕ) → ((p ≡ a) × (i ≡ f) × (b ≡ x)) ⊎ (h.to p i ≡ Some x) → ((q ≡ a) × (j ≡ f) × (b ≡ x)) ⊎ (h.to q j ≡ Some x) → (p ≡ q) × (i ≡ j)
      join_one x p q i j (inl v) (inl w) = (v.0 ∙ sym w.0, v.1 ∙ sym w.1)
      join_one x p q i j (inl v) (inr e) = absurd (top q j (e ∙ ap Some (sym v.2)))
      join_one x p q i j (inr e) (inl w) = absurd (top p i (e ∙ ap Some (sym w.2)))
      join_one x p q i j (inr e) (inr g) = forest.one x p q i j e g
