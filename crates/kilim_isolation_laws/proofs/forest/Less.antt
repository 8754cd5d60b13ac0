-- Fewer nodes and edges, the same numbers.
use Rattle.std.proofs.Common.{◌≡◌, ℕ, Bool, true, false, Option, Some, None, refl, ap, sym, ◌∙◌, ◌⊎◌, inl, inr, List, [], ◌∷◌}
use Rattle.kilim_isolation_laws.specs.forest.Heap.{Heap}
use Rattle.kilim_isolation_laws.specs.forest.Relation.{Standing, Root, is_gone, is_safe, Label, Node, Named, Names, IsEdge, Relates, Owns, Respects, RespectsAll}
use Rattle.kilim_isolation_laws.proofs.forest.View.{IsView, view_relates, respects_less, respects_view}
use Rattle.kilim_isolation_laws.proofs.forest.Frames.{respects_each}

-- a node that lives in g' has the same standing, region, head and object in g, and its edge, if it has one
pub record IsLess (g g' : Named) : Type 0 where
  pub at : (n : ℕ) → g'.at n ≡ g.at n
  pub standing : (n : ℕ) → is_gone (g'.node n).standing ≡ false → (g'.node n).standing ≡ (g.node n).standing
  pub region : (n : ℕ) → (g'.node n).region ≡ (g.node n).region
  pub head : (n : ℕ) → (g'.node n).head ≡ (g.node n).head
  pub edges : (n m : ℕ) (l : Label) → (g'.node m).parent ≡ Some (n, l) → (g.node m).parent ≡ Some (n, l)

module _ (IsPlace : ℕ → Label → Type 0) (h : Heap) (g g' : Named) (t : IsLess g g') where
  pub lives : (n : ℕ) → is_gone (g'.node n).standing ≡ false → is_gone (g.node n).standing ≡ false
  lives n e = ap is_gone (sym (t.standing n e)) ∙ e

  pub was : (n o : ℕ) → Names g' n o → Names g n o
  was n o w = (lives n w.0, sym (t.at n) ∙ w.1)

  pub less_view : IsView IsPlace h g g' (λ n. n)
  less_view = record {
    names = was;
    joins = λ n m o x wn wm e. t.region n ∙ e ∙ sym (t.region m);
    heads = λ n m x hd ln wm same. inr (sym (t.head n) ∙ hd, lives n ln, sym (t.region n) ∙ same ∙ t.region m, (λ e. e), t.at n);
    edges = λ n m l e ln lm. inl (t.edges n m l e, lives n ln, lives m lm, t.at n, t.at m);
    roots = λ n o w e. sym (t.standing n w.0) ∙ e;
  }

  pub less_relates : Relates IsPlace h g → Relates IsPlace h g'
  less_relates r = view_relates IsPlace h g g' (λ n. n) r less_view

  pub less_respects : (l : Named) → Respects h g l → Respects h g' l
  less_respects l rs = respects_view IsPlace h g g' l (λ n. n) less_view (λ n o w. ap is_safe (sym (t.standing n w.0)) ∙ w.1) rs

  pub less_respected : (u : Named) → Respects h u g → Respects h u g'
  less_respected u rs = respects_less IsPlace h u g g' (λ n. n) less_view (λ n m l e ln lm. t.edges n m l e) lives rs
