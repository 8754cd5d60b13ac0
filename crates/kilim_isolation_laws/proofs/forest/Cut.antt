-- The relation is kept where a place is emptied and what was there becomes a tree of its own.
use Rattle.std.proofs.Common.{◌≡◌, ℕ, Bool, true, false, Option, Some, None, refl, ap, sym, subst, ◌∙◌, ◌⊎◌, inl, inr, arith}
use Rattle.kilim_isolation_laws.specs.forest.Heap.{Heap, Below, Here, Then, IsUnder, IsForest, IsSet_at}
use Rattle.kilim_isolation_laws.specs.forest.Relation.{Standing, Root, is_gone, is_safe, Label, Node, Named, Names, IsEdge, Relates}
use Rattle.kilim_isolation_laws.proofs.forest.Paths.{some_is, none_is_not, joined, below_of, one_step, here_or_under, under_below, below_under, comparable, never_round, above_top}
use Rattle.kilim_isolation_laws.proofs.forest.Forests.{cut_edge, cut_forest, cut_path, cut_survives_under, cut_top, cut_keeps, cut_keeps_under}

-- the node belongs to the part that was cut off, whose root is `root`
pub record IsPart (h : Heap) (g g' : Named) (a f : ℕ) (some : Bool) (new root n : ℕ) : Type 0 where
  pub some_part : some ≡ true
  pub region : (g'.node n).region ≡ new
  pub cut : g.at root ≡ h.to a f
  pub head : (g'.node n).head ≡ true → n ≡ root
  pub standing : (o : ℕ) → g.at n ≡ Some o → (g'.node n).standing ≡ Root → n ≡ root
  pub below : (n ≡ root) ⊎ ((o : ℕ) → g.at n ≡ Some o → (c : ℕ) × (h.to a f ≡ Some c) × IsUnder h c o)

-- the node stays in its region
pub record IsRest (h : Heap) (g g' : Named) (a : ℕ) (some : Bool) (new n : ℕ) : Type 0 where
  pub region : (g'.node n).region ≡ (g.node n).region
  pub other : some ≡ true → (g.node n).region ≡ new → ⊥
  pub head : (g'.node n).head ≡ true → (g.node n).head ≡ true
  pub standing : (g'.node n).standing ≡ Root → (g.node n).standing ≡ Root
  pub safe : is_safe (g'.node n).standing ≡ false → is_safe (g.node n).standing ≡ false
  pub outside : (o : ℕ) → g.at n ≡ Some o → IsUnder h a o → ⊥

pub record IsCut_graph (h : Heap) (g g' : Named) (a f : ℕ) (some : Bool) (new root : ℕ) : Type 0 where
  pub at : (n : ℕ) → g'.at n ≡ g.at n
  pub lives : (n : ℕ) → is_gone (g'.node n).standing ≡ false → is_gone (g.node n).standing ≡ false
  pub kinds : (n : ℕ) → is_gone (g'.node n).standing ≡ false → IsPart h g g' a f some new root n ⊎ IsRest h g g' a some new n
  pub edges : (n m : ℕ) (l : Label) → (g'.node m).parent ≡ Some (n, l) → is_gone (g'.node n).standing ≡ false → is_gone (g'.node m).standing ≡ false →
      ((g.node m).parent ≡ Some (n, l)) × (g.at n ≡ Some a → ⊥)

module _ (IsPlace : ℕ → Label → Type 0) (h h' : Heap) (g g' : Named) (a f : ℕ) (some : Bool) (new root : ℕ) (forest : IsForest h) (s : IsSet_at h h' a f None)
    (r : Relates IsPlace h g) (t : IsCut_graph h g g' a f some new root) where
  pub was : (n o : ℕ) → Names g' n o → Names g n o
  was n o w = (t.lives n w.0, sym (t.at n) ∙ w.1)

  -- the object that was cut, of a node of the part
  pub cut_object : (n o : ℕ) → IsPart h g g' a f some new root n → g.at n ≡ Some o → (c : ℕ) × (h.to a f ≡ Some c) × Below h c o
  cut_object n o part w = elim part.below [
    | inl e ↦ (o, sym part.cut ∙ ap g.at (sym e) ∙ w, Here refl)
    | inr u ↦ ((u o w).0, (u o w).1, below_of h (u o w).0 o (u o w).2)
  ]

  pub part_under : (n o : ℕ) → IsPart h g g' a f some new root n → g.at n ≡ Some o → IsUnder h a o
  part_under n o part w =
      let c = cut_object n o part w in
      under_below h a c.0 o (one_step h a f c.0 c.1) c.2

  -- no path from what stays to the part
  pub no_path : (n m o x : ℕ) → IsRest h g g' a some new n → g.at n ≡ Some o → IsPart h g g' a f some new root m → g.at m ≡ Some x → Below h' o x → ⊥
  no_path n m o x rest wn part wm b =
      let c = cut_object m x part wm in
      elim (comparable h' (cut_forest h h' a f forest s) o c.0 x b (cut_keeps h h' a f forest s c.0 c.1 x c.2)) [
        | inl up ↦ rest.outside o wn (subst (λ z. IsUnder h a z) (sym (above_top h' (cut_forest h h' a f forest s) o c.0 (cut_top h h' a f forest s c.0 c.1) up)) (one_step h a f c.0 c.1))
        | inr down ↦ rest.outside o wn (under_below h a c.0 o (one_step h a f c.0 c.1) (cut_path h h' a f forest s c.0 o down))
      ]

  pub cut_relates : Relates IsPlace h' g'
  cut_relates = record {
    there = λ n o w. s.same o ∙ r.there n o (was n o w);
    apart = λ n m o x wn wm b. apart n m o x wn wm b (t.kinds n wn.0) (t.kinds m wm.0);
    headed = λ n m x hd ln wm same. headed n m x hd ln wm same (t.kinds n ln) (t.kinds m wm.0);
    edged = edged;
    whole = λ n o p i w root_is e. whole n o p i w root_is e (t.kinds n w.0);
  }
    where
      apart : (n m o x : ℕ) → Names g' n o → Names g' m x → Below h' o x → IsPart h g g' a f some new root n ⊎ IsRest h g g' a some new n →
          IsPart h g g' a f some new root m ⊎ IsRest h g g' a some new m → (g'.node n).region ≡ (g'.node m).region
      apart n m o x wn wm b (inl pn) (inl pm) = pn.region ∙ sym pm.region
      apart n m o x wn wm b (inl pn) (inr rm) =
          absurd (rm.outside x (was m x wm).1 (under_below h a o x (part_under n o pn (was n o wn).1) (cut_path h h' a f forest s o x b)))
      apart n m o x wn wm b (inr rn) (inl pm) = absurd (no_path n m o x rn (was n o wn).1 pm (was m x wm).1 b)
      apart n m o x wn wm b (inr rn) (inr rm) = rn.region ∙ r.apart n m o x (was n o wn) (was m x wm) (cut_path h h' a f forest s o x b) ∙ sym rm.region

      headed : (n m x : ℕ) → (g'.node n).head ≡ true → is_gone (g'.node n).standing ≡ false → Names g' m x → (g'.node n).region ≡ (g'.node m).region →
          IsPart h g g' a f some new root n ⊎ IsRest h g g' a some new n → IsPart h g g' a f some new root m ⊎ IsRest h g g' a some new m →
          (n ≡ m) ⊎ ((o : ℕ) × (g'.at n ≡ Some o) × IsUnder h' o x)
      headed n m x hd ln wm same (inl pn) (inl pm) = elim pm.below [
        | inl e ↦ inl (pn.head hd ∙ sym e)
        | inr u ↦
            let v = u x (was m x wm).1 in
            inr (v.0, t.at n ∙ ap g.at (pn.head hd) ∙ pn.cut ∙ v.1, cut_keeps_under h h' a f forest s v.0 v.1 x v.2)
      ]
      headed n m x hd ln wm same (inl pn) (inr rm) = absurd (rm.other pn.some_part (sym rm.region ∙ sym same ∙ pn.region))
      headed n m x hd ln wm same (inr rn) (inl pm) = absurd (rn.other pm.some_part (sym rn.region ∙ same ∙ pm.region))
      headed n m x hd ln wm same (inr rn) (inr rm) = elim (r.headed n m x (rn.head hd) (t.lives n ln) (was m x wm) (sym rn.region ∙ same ∙ rm.region)) [
        | inl e ↦ inl e
        | inr v ↦ inr (v.0, t.at n ∙ v.1, cut_survives_under h h' a f forest s v.0 x (rm.outside x (was m x wm).1) v.2)
      ]

      edged : (n m : ℕ) (l : Label) → (g'.node m).parent ≡ Some (n, l) → is_gone (g'.node n).standing ≡ false → is_gone (g'.node m).standing ≡ false →
          (o : ℕ) × (g'.at n ≡ Some o) × IsEdge IsPlace h' o l (g'.at m)
      edged n m l e ln lm =
          let old = t.edges n m l e ln lm in
          let k = r.edged n m l old.0 (t.lives n ln) (t.lives m lm) in (
            k.0,
            t.at n ∙ k.1,
            record {
              place = k.2.place;
              fits = k.2.fits;
              holds = (elim (s.others k.0 k.2.place) as (λ _. h'.to k.0 k.2.place ≡ h.to k.0 k.2.place) [
                | inl w ↦ absurd (old.1 (k.1 ∙ ap Some w.0))
                | inr same ↦ same
              ]) ∙ k.2.holds ∙ sym (t.at m);
            },
          )

      whole : (n o p i : ℕ) → Names g' n o → (g'.node n).standing ≡ Root → h'.to p i ≡ Some o → IsPart h g g' a f some new root n ⊎ IsRest h g g' a some new n → ⊥
      whole n o p i w root_is e (inl pn) =
          cut_top h h' a f forest s o (sym pn.cut ∙ ap g.at (sym (pn.standing o (was n o w).1 root_is)) ∙ (was n o w).1) p i e
      whole n o p i w root_is e (inr rn) = r.whole n o p i (was n o w) (rn.standing root_is) (cut_edge h h' a f forest s p i o e)
