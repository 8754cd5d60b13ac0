-- Receivers, trees that come, a store of null, and two threads over one heap.
use Rattle.std.proofs.Common.{◌≡◌, ℕ, zero, suc, ◌<◌, ◌≤◌, Bool, true, false, true≢false, Option, Some, None, List, [], ◌∷◌, eqb, refl, ap, sym, subst, ◌∙◌, ◌⊎◌, inl, inr, arith}
use Rattle.kilim_isolation_laws.specs.forest.Heap.{Heap, Below, Here, Then, IsUnder, Ends, Up, IsForest, IsSet_at, IsWithout, IsMore_objects}
use Rattle.kilim_isolation_laws.specs.forest.Relation.{Standing, Root, Inner, Safe, Gone, is_gone, is_safe, Label, Node, Named, Names, IsEdge, Relates, Owns, Respects, RespectsAll, Frames}
use Rattle.kilim_isolation_laws.specs.forest.Steps.{pick, join_node}
use Rattle.kilim_isolation_laws.proofs.forest.Paths.{some_is, one_step, below_of, under_below, here_or_under, never_round, joined, comparable}
use Rattle.kilim_isolation_laws.proofs.forest.Forests.{join_back, join_splits, cut_path}
use Rattle.kilim_isolation_laws.proofs.forest.Store.{both_ways, is_same, is_not_same, same_is}
use Rattle.kilim_isolation_laws.proofs.forest.View.{IsView, view_relates}
use Rattle.kilim_isolation_laws.proofs.forest.Grow.{more_back}

-- a ghost frame that keeps the receiver with which a frame began: one safe node, which stands for it
abbrev pub keeper : ℕ → Named
keeper o = record { node = λ n. record { region = 0; standing = pick (eqb n 0) Safe Gone; head = false; parent = None }; at = λ n. Some o }

pub no_parent_here : (p : ℕ × Label) → None ≡ Some p → ⊥
no_parent_here p e = cc

pub safe_no_root : (b : Bool) → pick b Safe Gone ≡ Root → ⊥
safe_no_root true e = cc
safe_no_root false e = cc

pub keeper_relates : (IsPlace : ℕ → Label → Type 0) (h : Heap) (o : ℕ) → h.has o ≡ true → Relates IsPlace h (keeper o)
keeper_relates IsPlace h o there = record {
  there = λ n x w. ap h.has (sym (some_is o x w.1)) ∙ there;
  apart = λ n m x y wn wm b. refl;
  headed = λ n m x hd ln wm same. absurd (true≢false (sym hd));
  edged = λ n m l e ln lm. absurd (no_parent_here (n, l) e);
  whole = λ n x p i w root_is e. safe_no_root (eqb n 0) root_is;
}

-- new objects whose names grow downwards make a forest again
module _ (h h' : Heap) (forest : IsForest h) (s : IsMore_objects h h')
    (grow : (p i x : ℕ) → h.has p ≡ false → h'.to p i ≡ Some x → p < x)
    (once : (x p q i j : ℕ) → h.has p ≡ false → h.has q ≡ false → h'.to p i ≡ Some x → h'.to q j ≡ Some x → (p ≡ q) × (i ≡ j))
    (there : (p i x : ℕ) → h.has p ≡ false → h'.to p i ≡ Some x → (h'.has p ≡ true) × (h'.has x ≡ true))
  where
    pub old_new : (p i x : ℕ) → h'.to p i ≡ Some x → ((h.has p ≡ true) × (h.to p i ≡ Some x)) ⊎ (h.has p ≡ false)
    old_new p i x e = elim (s.kinds p) [ inl old ↦ inl (old, sym (s.same p i old) ∙ e) | inr new ↦ inr new ]

    pub old_ends : (x : ℕ) → h.has x ≡ true → Ends h x → Ends h' x
    old_ends x here (Up {x = z} up) = Up (λ p i e. elim (old_new p i z e) [
      | inl w ↦ old_ends p w.0 (up p i w.1)
      | inr new ↦ absurd (s.apart p i z new e here)
    ])

    -- every object below the bound
    pub all_ends : (bound x : ℕ) → x < bound → Ends h' x
    all_ends zero x lt = absurd (omega arith)
    all_ends (suc bound) x lt = Up (λ p i e. elim (old_new p i x e) [
      | inl w ↦ old_ends p w.0 (forest.ends p)
      | inr new ↦
          let g = grow p i x new e in
          all_ends bound p (omega arith)
    ])

    pub more_forest : IsForest h'
    more_forest = record {
      one = λ x p q i j e f. one x p q i j e f (old_new p i x e) (old_new q j x f);
      ends = λ x. all_ends (suc x) x (omega arith);
      there = λ p i x e. elim (old_new p i x e) [
        | inl w ↦ (s.there p w.0, s.there x (forest.there p i x w.1).1)
        | inr new ↦ there p i x new e
      ];
    }
      where
        one : (x p q i j : ℕ) → h'.to p i ≡ Some x → h'.to q j ≡ Some x → ((h.has p ≡ true) × (h.to p i ≡ Some x)) ⊎ (h.has p ≡ false) →
            ((h.has q ≡ true) × (h.to q j ≡ Some x)) ⊎ (h.has q ≡ false) → (p ≡ q) × (i ≡ j)
        one x p q i j e f (inl v) (inl w) = forest.one x p q i j v.1 w.1
        one x p q i j e f (inl v) (inr n) = absurd (s.apart q j x n f (forest.there p i x v.1).1)
        one x p q i j e f (inr m) (inl w) = absurd (s.apart p i x m e (forest.there q j x w.1).1)
        one x p q i j e f (inr m) (inr n) = once x p q i j m n e f

-- a root that stands for null joins the region of a
module _ (IsPlace : ℕ → Label → Type 0) (h : Heap) (u : Named) (r : Relates IsPlace h u) (na nb a f : ℕ) (l : Label) (names_a : Names u na a)
    (live_b : is_gone (u.node nb).standing ≡ false) (null : u.at nb ≡ None) (head_b : (u.node nb).head ≡ true) (empty : h.to a f ≡ None) (place : IsPlace f l) where
  abbrev pub null_named : Named
  null_named = record { node = λ n. join_node u.node na nb l n; at = u.at }

  abbrev pub inside : ℕ → Node
  inside n = record { region = (u.node na).region; standing = pick (eqb n nb) Inner (u.node n).standing; head = false; parent = pick (eqb n nb) (Some (na, l)) (u.node n).parent }

  pub where_is : (n : ℕ) → (null_named.node n ≡ inside n) × ((u.node n).region ≡ (u.node nb).region) ⊎ (null_named.node n ≡ u.node n)
  where_is n = elim (both_ways (eqb (u.node n).region (u.node nb).region)) [
    | inl e ↦ inl (ap (λ x. pick x (inside n) (u.node n)) e, is_same (u.node n).region (u.node nb).region e)
    | inr e ↦ inr (ap (λ x. pick x (inside n) (u.node n)) e)
  ]

  pub was_live : (n : ℕ) → is_gone (null_named.node n).standing ≡ false → is_gone (u.node n).standing ≡ false
  was_live n live = elim (where_is n) [
    | inl w ↦ elim (both_ways (eqb n nb)) [
      | inl it ↦ ap (λ z. is_gone (u.node z).standing) (is_same n nb it) ∙ live_b
      | inr other ↦ ap (λ x. is_gone (pick x Inner (u.node n).standing)) (sym other) ∙ ap (λ z. is_gone z.standing) (sym w.0) ∙ live
    ]
    | inr w ↦ ap (λ z. is_gone z.standing) (sym w) ∙ live
  ]

  pub null_or_some : (m : Option ℕ) (o : ℕ) → m ≡ None → m ≡ Some o → ⊥
  null_or_some m o e f = cc

  -- no node of that region stands for an object
  pub outside : (n o : ℕ) → Names null_named n o → null_named.node n ≡ u.node n
  outside n o w = elim (where_is n) [
    | inl i ↦ elim (r.headed nb n o head_b live_b (was_live n w.0, w.1) (sym i.1)) [
      | inl e ↦ absurd (null_or_some (u.at n) o (ap u.at (sym e) ∙ null) w.1)
      | inr v ↦ absurd (null_or_some (u.at nb) v.0 null v.1)
    ]
    | inr e ↦ e
  ]

  pub null_view : IsView IsPlace h u null_named (λ n. n)
  null_view = record {
    names = λ n o w. (was_live n w.0, w.1);
    joins = λ n m o x wn wm e. ap (λ z. z.region) (outside n o wn) ∙ e ∙ sym (ap (λ z. z.region) (outside m x wm));
    heads = λ n m x hd ln wm same. elim (where_is n) [
      | inl w ↦ absurd (true≢false (sym hd ∙ ap (λ z. z.head) w.0))
      | inr w ↦ inr (ap (λ z. z.head) (sym w) ∙ hd, was_live n ln, ap (λ z. z.region) (sym w) ∙ same ∙ ap (λ z. z.region) (outside m x wm), (λ e. e), refl)
    ];
    edges = λ n m lb e ln lm. elim (where_is m) [
      | inl w ↦ elim (both_ways (eqb m nb)) [
        | inl it ↦
            let p = sym (ap (λ z. z.parent) w.0 ∙ ap (λ x. pick x (Some (na, l)) (u.node m).parent) it) ∙ e in
            inr (a, ap (λ q. u.at (first_or q n)) (sym p) ∙ names_a.1, record { place = f; fits = subst (λ q. IsPlace f (second_or q lb)) p place; holds = empty ∙ sym (ap u.at (is_same m nb it) ∙ null) })
        | inr other ↦ inl (sym (ap (λ z. z.parent) w.0 ∙ ap (λ x. pick x (Some (na, l)) (u.node m).parent) other) ∙ e, was_live n ln, was_live m lm, refl, refl)
      ]
      | inr w ↦ inl (ap (λ z. z.parent) (sym w) ∙ e, was_live n ln, was_live m lm, refl, refl)
    ];
    roots = λ n o w is. ap (λ z. z.standing) (sym (outside n o w)) ∙ is;
  }
    where
      first_or : Option (ℕ × Label) → ℕ → ℕ
      first_or None d = d
      first_or (Some q) d = q.0

      second_or : Option (ℕ × Label) → Label → Label
      second_or None d = d
      second_or (Some q) d = q.1

  pub null_relates : Relates IsPlace h null_named
  null_relates = view_relates IsPlace h u null_named (λ n. n) r null_view
