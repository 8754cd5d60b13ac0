-- The relation is kept where no object changes: fewer nodes, other numbers, the graph at a method's entry.
use Rattle.std.proofs.Common.{◌≡◌, ℕ, Bool, true, false, Option, Some, None, refl, ap, sym, subst, ◌∙◌, ◌⊎◌, inl, inr, arith}
use Rattle.kilim_isolation_laws.specs.forest.Heap.{Heap, Below, Here, Then, IsUnder, IsForest}
use Rattle.kilim_isolation_laws.specs.forest.Relation.{Standing, Root, is_gone, is_safe, Label, Node, Named, Names, IsEdge, Relates, Owns, Respects}
use Rattle.kilim_isolation_laws.proofs.forest.Frames.{ComesFrom, respects_from}

-- each node n of g' that stands for an object is the node `of n` of g
pub record IsView (IsPlace : ℕ → Label → Type 0) (h : Heap) (g g' : Named) (of : ℕ → ℕ) : Type 0 where
  pub names : (n o : ℕ) → Names g' n o → Names g (of n) o
  pub joins : (n m o x : ℕ) → Names g' n o → Names g' m x → (g.node (of n)).region ≡ (g.node (of m)).region → (g'.node n).region ≡ (g'.node m).region
  pub heads : (n m x : ℕ) → (g'.node n).head ≡ true → is_gone (g'.node n).standing ≡ false → Names g' m x → (g'.node n).region ≡ (g'.node m).region →
      (n ≡ m) ⊎
      (((g.node (of n)).head ≡ true) × (is_gone (g.node (of n)).standing ≡ false) × ((g.node (of n)).region ≡ (g.node (of m)).region) × (of n ≡ of m → n ≡ m) ×
      (g'.at n ≡ g.at (of n)))
  pub edges : (n m : ℕ) (l : Label) → (g'.node m).parent ≡ Some (n, l) → is_gone (g'.node n).standing ≡ false → is_gone (g'.node m).standing ≡ false →
      (((g.node (of m)).parent ≡ Some (of n, l)) × (is_gone (g.node (of n)).standing ≡ false) × (is_gone (g.node (of m)).standing ≡ false) × (g'.at n ≡ g.at (of n)) ×
      (g'.at m ≡ g.at (of m))) ⊎
      ((o : ℕ) × (g'.at n ≡ Some o) × IsEdge IsPlace h o l (g'.at m))
  pub roots : (n o : ℕ) → Names g' n o → (g'.node n).standing ≡ Root → (g.node (of n)).standing ≡ Root

module _ (IsPlace : ℕ → Label → Type 0) (h : Heap) (g g' : Named) (of : ℕ → ℕ) (r : Relates IsPlace h g) (t : IsView IsPlace h g g' of) where
  pub view_relates : Relates IsPlace h g'
  view_relates = record {
    there = λ n o w. r.there (of n) o (t.names n o w);
    apart = λ n m o x wn wm b. t.joins n m o x wn wm (r.apart (of n) (of m) o x (t.names n o wn) (t.names m x wm) b);
    headed = λ n m x hd ln wm same. elim (t.heads n m x hd ln wm same) [
      | inl e ↦ inl e
      | inr v ↦ elim (r.headed (of n) (of m) x v.0 v.1 (t.names m x wm) v.2) [
        | inl e ↦ inl (v.3 e)
        | inr w ↦ inr (w.0, v.4 ∙ w.1, w.2)
      ]
    ];
    edged = λ n m l e ln lm. elim (t.edges n m l e ln lm) [
      | inl v ↦
          let k = r.edged (of n) (of m) l v.0 v.1 v.2 in
          (k.0, v.3 ∙ k.1, record { place = k.2.place; fits = k.2.fits; holds = k.2.holds ∙ sym v.4 })
      | inr k ↦ k
    ];
    whole = λ n o p i w root_is e. r.whole (of n) o p i (t.names n o w) (t.roots n o w root_is) e;
  }

-- a lower frame of which less is asked is respected as before
pub respects_less : (IsPlace : ℕ → Label → Type 0) (h : Heap) (u l l' : Named) (of : ℕ → ℕ) → IsView IsPlace h l l' of →
    ((n m : ℕ) (lb : Label) → (l'.node m).parent ≡ Some (n, lb) → is_gone (l'.node n).standing ≡ false → is_gone (l'.node m).standing ≡ false → (l.node (of m)).parent ≡ Some (of n, lb)) →
    ((n : ℕ) → is_gone (l'.node n).standing ≡ false → is_gone (l.node (of n)).standing ≡ false) → Respects h u l → Respects h u l'
respects_less IsPlace h u l l' of t edges lives r = record {
  strictly = λ n o m x wn wm under. r.strictly n o (of m) x wn (t.names m x wm) under;
  root = λ n o m wn root_is wm. r.root n o (of m) wn root_is (t.names m o wm);
  no_edge = λ n o m k lb wn wm e live. r.no_edge n o (of m) (of k) lb wn (t.names m o wm) (edges m k lb e wm.0 live) (lives k live);
}

-- an upper frame that views another one's nodes respects what that one respected
pub respects_view : (IsPlace : ℕ → Label → Type 0) (h : Heap) (u u' l : Named) (of : ℕ → ℕ) → IsView IsPlace h u u' of →
    ((n o : ℕ) → Owns u' n o → is_safe (u.node (of n)).standing ≡ false) → Respects h u l → Respects h u' l
respects_view IsPlace h u u' l of t owned r = respects_from h u u' l
    (λ n o w. inl (inl (of n, ((t.names n o (w.0, w.2)).0, owned n o w, (t.names n o (w.0, w.2)).1), λ root_is. t.roots n o (w.0, w.2) root_is))) r
