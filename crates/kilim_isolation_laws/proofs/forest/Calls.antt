-- A call: the callee's graph respects the caller's graph after the call; and a return.
use Rattle.std.proofs.Common.{◌≡◌, ℕ, Bool, true, false, true≢false, Option, Some, None, refl, ap, sym, subst, ◌∙◌, ◌⊎◌, inl, inr, arith}
use Rattle.kilim_isolation_laws.specs.forest.Heap.{Heap, Below, Here, Then, IsUnder, IsForest}
use Rattle.kilim_isolation_laws.specs.forest.Relation.{Standing, Root, is_gone, is_safe, Label, Node, Named, Names, IsEdge, Relates, Owns, Respects}
use Rattle.kilim_isolation_laws.proofs.forest.Paths.{some_is, joined, below_of, one_step, here_or_under, under_below, below_under, comparable, never_round, above_top}
use Rattle.kilim_isolation_laws.proofs.forest.View.{IsView, view_relates}

-- what the caller's graph after the call says of each argument that the callee may change
pub record IsAfter_call (h : Heap) (g after entry : Named) (of : ℕ → ℕ) : Type 0 where
  pub at : (n : ℕ) → after.at n ≡ g.at n
  pub lives : (n : ℕ) → is_gone (after.node n).standing ≡ false → is_gone (g.node n).standing ≡ false
  -- a free one: its whole region is gone
  pub free : (k o m : ℕ) → Owns entry k o → (entry.node k).standing ≡ Root → is_gone (after.node m).standing ≡ false → (g.node m).region ≡ (g.node (of k)).region → ⊥
  -- a cuttable one: of its region are left the head, itself and known ancestors, and no edge goes out of it
  pub cuttable : (k o m x : ℕ) → Owns entry k o → Names after m x → (g.node m).region ≡ (g.node (of k)).region →
      (m ≡ of k) ⊎ (((g.node m).head ≡ true) ⊎ IsUnder h x o)
  pub no_edge : (k o m : ℕ) (l : Label) → Owns entry k o → is_gone (after.node (of k)).standing ≡ false → (after.node m).parent ≡ Some (of k, l) → is_gone (after.node m).standing ≡ false → ⊥

module _ (IsPlace : ℕ → Label → Type 0) (h : Heap) (g after entry : Named) (of : ℕ → ℕ) (forest : IsForest h) (r : Relates IsPlace h g) (v : IsView IsPlace h g entry of)
    (c : IsAfter_call h g after entry of) where
  pub was : (m x : ℕ) → Names after m x → Names g m x
  was m x w = (c.lives m w.0, sym (c.at m) ∙ w.1)

  pub arg : (k o : ℕ) → Owns entry k o → Names g (of k) o
  arg k o w = v.names k o (w.0, w.2)

  -- what is left of an argument's region is the argument itself or strictly above it
  pub left : (k o m x : ℕ) → Owns entry k o → Names after m x → Below h o x → m ≡ of k
  left k o m x wk wm down =
      let same = sym (r.apart (of k) m o x (arg k o wk) (was m x wm) down) in
      elim (c.cuttable k o m x wk wm same) [
        | inl e ↦ e
        | inr (inl hd) ↦ elim (r.headed m (of k) o hd (c.lives m wm.0) (arg k o wk) same) [
          | inl e ↦ e
          | inr u ↦ absurd (never_round h forest o (below_under h o x o down (subst (λ z. IsUnder h z o) (some_is u.0 x (sym u.1 ∙ (was m x wm).1)) u.2)))
        ]
        | inr (inr u) ↦ absurd (never_round h forest o (below_under h o x o down u))
      ]

  pub call_respects : Respects h entry after
  call_respects = record {
    strictly = λ k o m x wk wm under.
        let e = left k o m x wk wm (below_of h o x under) in
        never_round h forest o (subst (λ z. IsUnder h o z) (some_is x o (sym (was m x wm).1 ∙ ap g.at e ∙ (arg k o wk).1)) under);
    root = λ k o m wk root_is wm. c.free k o m wk root_is wm.0 (sym (r.apart (of k) m o o (arg k o wk) (was m o wm) (Here refl)));
    no_edge = λ k o m j l wk wm e live.
        let same = left k o m o wk wm (Here refl) in
        c.no_edge k o j l wk (ap (λ z. is_gone (after.node z).standing) (sym same) ∙ wm.0) (e ∙ ap (λ z. Some (z, l)) same) live;
  }
