-- The relation is kept where a node comes, and where new objects come.
use Rattle.std.proofs.Common.{◌≡◌, ℕ, Bool, true, false, true≢false, Option, Some, None, refl, ap, sym, subst, ◌∙◌, ◌⊎◌, inl, inr, arith}
use Rattle.kilim_isolation_laws.specs.forest.Heap.{Heap, Below, Here, Then, IsUnder, Ends, Up, IsForest, IsMore_objects}
use Rattle.kilim_isolation_laws.specs.forest.Relation.{Standing, Root, is_gone, Label, Node, Named, Names, IsEdge, Relates}
use Rattle.kilim_isolation_laws.proofs.forest.Paths.{some_is, none_is_not, joined, below_of, one_step, here_or_under, under_below, below_under, comparable, never_round, above_top}

-- all as before but the node k, which wasn't there
pub record IsMore_nodes (g g' : Named) (k : ℕ) : Type 0 where
  pub each : (n : ℕ) → (n ≡ k) ⊎ ((g'.node n ≡ g.node n) × (g'.at n ≡ g.at n))
  pub fresh : is_gone (g.node k).standing ≡ true
  pub unused : (n m : ℕ) (l : Label) → (g.node m).parent ≡ Some (n, l) → n ≡ k → ⊥

-- k is what the node na holds at a place
pub record IsChild (IsPlace : ℕ → Label → Type 0) (h : Heap) (g g' : Named) (k na a place : ℕ) : Type 0 where
  pub above : Names g na a
  pub region : (g'.node k).region ≡ (g.node na).region
  pub holds : h.to a place ≡ g'.at k
  pub head : (g'.node k).head ≡ true → ⊥
  pub standing : (g'.node k).standing ≡ Root → ⊥
  pub parent : (n : ℕ) (l : Label) → (g'.node k).parent ≡ Some (n, l) → (n ≡ na) × IsPlace place l

-- k stands for null, or for a tree that no other node and nothing in the heap meets
pub record IsNew_root (h : Heap) (g g' : Named) (k : ℕ) : Type 0 where
  pub region : (n : ℕ) → is_gone (g.node n).standing ≡ false → (g.node n).region ≡ (g'.node k).region → ⊥
  pub parent : (n : ℕ) (l : Label) → (g'.node k).parent ≡ Some (n, l) → ⊥
  pub there : (o : ℕ) → g'.at k ≡ Some o → h.has o ≡ true
  pub top : (o p i : ℕ) → g'.at k ≡ Some o → h.to p i ≡ Some o → ⊥
  pub apart : (o n x : ℕ) → g'.at k ≡ Some o → Names g n x → Below h o x → ⊥

module _ (IsPlace : ℕ → Label → Type 0) (h : Heap) (g g' : Named) (k : ℕ) (forest : IsForest h) (r : Relates IsPlace h g) (t : IsMore_nodes g g' k) where
  -- a node that isn't k
  SameNode : ℕ → Type 0
  SameNode n = (g'.node n ≡ g.node n) × (g'.at n ≡ g.at n)

  pub was : (n o : ℕ) → (g'.node n ≡ g.node n) × (g'.at n ≡ g.at n) → Names g' n o → Names g n o
  was n o e w = (ap (λ z. is_gone z.standing) (sym e.0) ∙ w.0, sym e.1 ∙ w.1)

  pub not_k : (n : ℕ) → is_gone (g.node n).standing ≡ false → n ≡ k → ⊥
  not_k n live e = true≢false (sym t.fresh ∙ ap (λ z. is_gone (g.node z).standing) (sym e) ∙ live)

  pub stays : (n : ℕ) → is_gone (g.node n).standing ≡ false → (g'.node n ≡ g.node n) × (g'.at n ≡ g.at n)
  stays n live = elim (t.each n) [ inl e ↦ absurd (not_k n live e) | inr e ↦ e ]

  pub now : (n o : ℕ) → n ≡ k → Names g' n o → Names g' k o
  now n o e w = subst (λ z. Names g' z o) e w

  -- edges between nodes that aren't k
  pub old_edge : (n m : ℕ) (l : Label) → (g'.node m ≡ g.node m) × (g'.at m ≡ g.at m) → (g'.node m).parent ≡ Some (n, l) → is_gone (g'.node n).standing ≡ false →
      is_gone (g'.node m).standing ≡ false → (o : ℕ) × (g'.at n ≡ Some o) × IsEdge IsPlace h o l (g'.at m)
  old_edge n m l em e ln lm = elim (t.each n) [
    | inl n_is ↦ absurd (t.unused n m l (ap (λ z. z.parent) (sym em.0) ∙ e) n_is)
    | inr en ↦
        let w = r.edged n m l (ap (λ z. z.parent) (sym em.0) ∙ e) (ap (λ z. is_gone z.standing) (sym en.0) ∙ ln) (ap (λ z. is_gone z.standing) (sym em.0) ∙ lm) in
        (w.0, en.1 ∙ w.1, record { place = w.2.place; fits = w.2.fits; holds = w.2.holds ∙ sym em.1 })
  ]

  module _ (na a place : ℕ) (c : IsChild IsPlace h g g' k na a place) where
    -- a node above the child is the child's own object or above a
    above_child : (n y x : ℕ) → Names g n y → g'.at k ≡ Some x → Below h y x → (g.node n).region ≡ (g.node na).region
    above_child n y x w at (Here e) = sym (r.apart na n a y c.above w (Then a place (Here refl) (c.holds ∙ at ∙ ap Some (sym e))))
    above_child n y x w at (Then p i b e) =
        r.apart n na y a w c.above (subst (λ z. Below h y z) (forest.one x p a i place e (c.holds ∙ at)).0 b)

    below_child : (n y x : ℕ) → Names g n y → g'.at k ≡ Some x → Below h x y → (g.node na).region ≡ (g.node n).region
    below_child n y x w at b = r.apart na n a y c.above w (below_of h a y (under_below h a x y (one_step h a place x (c.holds ∙ at)) b))

    pub child_relates : Relates IsPlace h g'
    child_relates = record {
      there = λ n o w. elim (t.each n) [
        | inl e ↦ (forest.there a place o (c.holds ∙ (now n o e w).1)).1
        | inr e ↦ r.there n o (was n o e w)
      ];
      apart = λ n m o x wn wm b. apart n m o x wn wm b (t.each n) (t.each m);
      headed = λ n m x hd ln wm same. headed n m x hd ln wm same (t.each n) (t.each m);
      edged = λ n m l e ln lm. edged n m l e ln lm (t.each m);
      whole = λ n o p i w root_is e. elim (t.each n) [
        | inl k_is ↦ c.standing (ap (λ z. (g'.node z).standing) (sym k_is) ∙ root_is)
        | inr en ↦ r.whole n o p i (was n o en w) (ap (λ z. z.standing) (sym en.0) ∙ root_is) e
      ];
    }
      where
        region_of : (n : ℕ) → (g'.node n ≡ g.node n) × (g'.at n ≡ g.at n) → (g'.node n).region ≡ (g.node n).region
        region_of n e = ap (λ z. z.region) e.0

        region_k : (n : ℕ) → n ≡ k → (g'.node n).region ≡ (g.node na).region
        region_k n e = ap (λ z. (g'.node z).region) e ∙ c.region

        apart : (n m o x : ℕ) → Names g' n o → Names g' m x → Below h o x → (n ≡ k) ⊎ ((g'.node n ≡ g.node n) × (g'.at n ≡ g.at n)) →
            (m ≡ k) ⊎ ((g'.node m ≡ g.node m) × (g'.at m ≡ g.at m)) → (g'.node n).region ≡ (g'.node m).region
        apart n m o x wn wm b (inl en) (inl em) = region_k n en ∙ sym (region_k m em)
        apart n m o x wn wm b (inl en) (inr em) = region_k n en ∙ below_child m x o (was m x em wm) (now n o en wn).1 b ∙ sym (region_of m em)
        apart n m o x wn wm b (inr en) (inl em) = region_of n en ∙ above_child n o x (was n o en wn) (now m x em wm).1 b ∙ sym (region_k m em)
        apart n m o x wn wm b (inr en) (inr em) = region_of n en ∙ r.apart n m o x (was n o en wn) (was m x em wm) b ∙ sym (region_of m em)

        headed : (n m x : ℕ) → (g'.node n).head ≡ true → is_gone (g'.node n).standing ≡ false → Names g' m x → (g'.node n).region ≡ (g'.node m).region →
            (n ≡ k) ⊎ ((g'.node n ≡ g.node n) × (g'.at n ≡ g.at n)) → (m ≡ k) ⊎ ((g'.node m ≡ g.node m) × (g'.at m ≡ g.at m)) →
            (n ≡ m) ⊎ ((o : ℕ) × (g'.at n ≡ Some o) × IsUnder h o x)
        headed n m x hd ln wm same (inl en) km = absurd (c.head (ap (λ z. (g'.node z).head) (sym en) ∙ hd))
        headed n m x hd ln wm same (inr en) (inl em) =
            let edge = one_step h a place x (c.holds ∙ (now m x em wm).1) in
            elim (r.headed n na a (ap (λ z. z.head) (sym en.0) ∙ hd) (ap (λ z. is_gone z.standing) (sym en.0) ∙ ln) c.above (sym (region_of n en) ∙ same ∙ region_k m em)) [
              | inl e ↦ inr (a, en.1 ∙ ap g.at e ∙ c.above.1, edge)
              | inr v ↦ inr (v.0, en.1 ∙ v.1, below_under h v.0 a x (below_of h v.0 a v.2) edge)
            ]
        headed n m x hd ln wm same (inr en) (inr em) =
            elim (r.headed n m x (ap (λ z. z.head) (sym en.0) ∙ hd) (ap (λ z. is_gone z.standing) (sym en.0) ∙ ln) (was m x em wm) (sym (region_of n en) ∙ same ∙ region_of m em)) [
              | inl e ↦ inl e
              | inr v ↦ inr (v.0, en.1 ∙ v.1, v.2)
            ]

        edged : (n m : ℕ) (l : Label) → (g'.node m).parent ≡ Some (n, l) → is_gone (g'.node n).standing ≡ false → is_gone (g'.node m).standing ≡ false →
            (m ≡ k) ⊎ ((g'.node m ≡ g.node m) × (g'.at m ≡ g.at m)) → (o : ℕ) × (g'.at n ≡ Some o) × IsEdge IsPlace h o l (g'.at m)
        edged n m l e ln lm (inl em) =
            let w = c.parent n l (ap (λ z. (g'.node z).parent) (sym em) ∙ e) in
            (a, ap g'.at w.0 ∙ (stays na c.above.0).1 ∙ c.above.1, record { place = place; fits = w.1; holds = c.holds ∙ ap g'.at (sym em) })
        edged n m l e ln lm (inr em) = old_edge n m l em e ln lm

  module _ (c : IsNew_root h g g' k) where
    pub root_relates : Relates IsPlace h g'
    root_relates = record {
      there = λ n o w. elim (t.each n) [ inl e ↦ c.there o (now n o e w).1 | inr e ↦ r.there n o (was n o e w) ];
      apart = λ n m o x wn wm b. apart n m o x wn wm b (t.each n) (t.each m);
      headed = λ n m x hd ln wm same. headed n m x hd ln wm same (t.each n) (t.each m);
      edged = λ n m l e ln lm. elim (t.each m) [
        | inl em ↦ absurd (c.parent n l (ap (λ z. (g'.node z).parent) (sym em) ∙ e))
        | inr em ↦ old_edge n m l em e ln lm
      ];
      whole = λ n o p i w root_is e. elim (t.each n) [
        | inl en ↦ c.top o p i (now n o en w).1 e
        | inr en ↦ r.whole n o p i (was n o en w) (ap (λ z. z.standing) (sym en.0) ∙ root_is) e
      ];
    }
      where
        region_of : (n : ℕ) → (g'.node n ≡ g.node n) × (g'.at n ≡ g.at n) → (g'.node n).region ≡ (g.node n).region
        region_of n e = ap (λ z. z.region) e.0

        region_k : (n : ℕ) → n ≡ k → (g'.node n).region ≡ (g'.node k).region
        region_k n e = ap (λ z. (g'.node z).region) e

        live : (n : ℕ) → (g'.node n ≡ g.node n) × (g'.at n ≡ g.at n) → is_gone (g'.node n).standing ≡ false → is_gone (g.node n).standing ≡ false
        live n en ln = ap (λ z. is_gone z.standing) (sym en.0) ∙ ln

        apart : (n m o x : ℕ) → Names g' n o → Names g' m x → Below h o x → (n ≡ k) ⊎ ((g'.node n ≡ g.node n) × (g'.at n ≡ g.at n)) →
            (m ≡ k) ⊎ ((g'.node m ≡ g.node m) × (g'.at m ≡ g.at m)) → (g'.node n).region ≡ (g'.node m).region
        apart n m o x wn wm b (inl en) (inl em) = region_k n en ∙ sym (region_k m em)
        apart n m o x wn wm b (inl en) (inr em) = absurd (c.apart o m x (now n o en wn).1 (was m x em wm) b)
        apart n m o x wn wm b (inr en) (inl em) =
            absurd (c.apart x n o (now m x em wm).1 (was n o en wn) (Here (sym (above_top h forest o x (λ p i. c.top x p i (now m x em wm).1) b))))
        apart n m o x wn wm b (inr en) (inr em) = region_of n en ∙ r.apart n m o x (was n o en wn) (was m x em wm) b ∙ sym (region_of m em)

        headed : (n m x : ℕ) → (g'.node n).head ≡ true → is_gone (g'.node n).standing ≡ false → Names g' m x → (g'.node n).region ≡ (g'.node m).region →
            (n ≡ k) ⊎ ((g'.node n ≡ g.node n) × (g'.at n ≡ g.at n)) → (m ≡ k) ⊎ ((g'.node m ≡ g.node m) × (g'.at m ≡ g.at m)) →
            (n ≡ m) ⊎ ((o : ℕ) × (g'.at n ≡ Some o) × IsUnder h o x)
        headed n m x hd ln wm same (inl en) (inl em) = inl (en ∙ sym em)
        headed n m x hd ln wm same (inl en) (inr em) = absurd (c.region m (live m em wm.0) (sym (region_of m em) ∙ sym same ∙ region_k n en))
        headed n m x hd ln wm same (inr en) (inl em) = absurd (c.region n (live n en ln) (sym (region_of n en) ∙ same ∙ region_k m em))
        headed n m x hd ln wm same (inr en) (inr em) =
            elim (r.headed n m x (ap (λ z. z.head) (sym en.0) ∙ hd) (live n en ln) (was m x em wm) (sym (region_of n en) ∙ same ∙ region_of m em)) [
              | inl e ↦ inl e
              | inr v ↦ inr (v.0, en.1 ∙ v.1, v.2)
            ]

-- new objects
module _ (IsPlace : ℕ → Label → Type 0) (h h' : Heap) (forest : IsForest h) (s : IsMore_objects h h') where
  pub more_edge : (p i x : ℕ) → h.to p i ≡ Some x → h'.to p i ≡ Some x
  more_edge p i x e = s.same p i (forest.there p i x e).0 ∙ e

  pub more_path : (o x : ℕ) → Below h o x → Below h' o x
  more_path o x (Here e) = Here e
  more_path o x (Then p i b e) = Then p i (more_path o p b) (more_edge p i x e)

  -- what is above an old object is old
  pub more_back : (p i x : ℕ) → h.has x ≡ true → h'.to p i ≡ Some x → h.to p i ≡ Some x
  more_back p i x here e = elim (s.kinds p) [
    | inl old ↦ sym (s.same p i old) ∙ e
    | inr new ↦ absurd (s.apart p i x new e here)
  ]

  pub more_path_back : (o x : ℕ) → h.has x ≡ true → Below h' o x → Below h o x
  more_path_back o x here (Here e) = Here e
  more_path_back o x here (Then p i b e) =
      let f = more_back p i x here e in
      Then p i (more_path_back o p (forest.there p i x f).0 b) f

  pub more_relates : (g : Named) → Relates IsPlace h g → Relates IsPlace h' g
  more_relates g r = record {
    there = λ n o w. s.there o (r.there n o w);
    apart = λ n m o x wn wm b. r.apart n m o x wn wm (more_path_back o x (r.there m x wm) b);
    headed = λ n m x hd ln wm same. elim (r.headed n m x hd ln wm same) [
      | inl e ↦ inl e
      | inr v ↦ inr (v.0, v.1, (v.2.0, v.2.1, more_path v.0 v.2.0 v.2.2, more_edge v.2.0 v.2.1 x v.2.3))
    ];
    edged = λ n m l e ln lm.
        let k = r.edged n m l e ln lm in
        (k.0, k.1, record { place = k.2.place; fits = k.2.fits; holds = s.same k.0 k.2.place (r.there n k.0 (ln, k.1)) ∙ k.2.holds });
    whole = λ n o p i w root_is e. r.whole n o p i w root_is (more_back p i o (r.there n o w) e);
  }
