-- The relation is kept where an empty place gets a tree that nothing held.
use Rattle.std.proofs.Common.{◌≡◌, ℕ, Bool, true, false, Option, Some, None, refl, ap, sym, subst, ◌∙◌, ◌⊎◌, inl, inr, arith}
use Rattle.kilim_isolation_laws.specs.forest.Heap.{Heap, Below, Here, Then, IsUnder, IsForest, IsSet_at}
use Rattle.kilim_isolation_laws.specs.forest.Relation.{Standing, Root, is_gone, Label, Node, Named, Names, IsEdge, Relates}
use Rattle.kilim_isolation_laws.proofs.forest.Paths.{some_is, none_is_not, joined, below_of, one_step, here_or_under, under_below, below_under, comparable, never_round, above_top}
use Rattle.kilim_isolation_laws.proofs.forest.Forests.{join_edge, join_back, join_path, join_under, join_splits}

-- the node is of the tree that joins: `na` is the node of the object that gets it
pub record IsJoined (h : Heap) (g g' : Named) (a b na n : ℕ) : Type 0 where
  pub region : (g'.node n).region ≡ (g.node na).region
  pub above : Names g na a
  pub head : (g'.node n).head ≡ true → ⊥
  pub standing : (o : ℕ) → g.at n ≡ Some o → (g'.node n).standing ≡ Root → ⊥
  pub below : (o : ℕ) → g.at n ≡ Some o → Below h b o

pub record IsOther (h : Heap) (g g' : Named) (b n : ℕ) : Type 0 where
  pub region : (g'.node n).region ≡ (g.node n).region
  pub head : (g'.node n).head ≡ true → (g.node n).head ≡ true
  pub standing : (g'.node n).standing ≡ Root → (g.node n).standing ≡ Root
  pub outside : (o : ℕ) → g.at n ≡ Some o → Below h b o → ⊥

pub record IsJoined_graph (IsPlace : ℕ → Label → Type 0) (h : Heap) (g g' : Named) (a f b na : ℕ) : Type 0 where
  pub at : (n : ℕ) → g'.at n ≡ g.at n
  pub lives : (n : ℕ) → is_gone (g'.node n).standing ≡ false → is_gone (g.node n).standing ≡ false
  pub kinds : (n : ℕ) → is_gone (g'.node n).standing ≡ false → IsJoined h g g' a b na n ⊎ IsOther h g g' b n
  pub edges : (n m : ℕ) (l : Label) → (g'.node m).parent ≡ Some (n, l) → is_gone (g'.node n).standing ≡ false → is_gone (g'.node m).standing ≡ false →
      (((g.node m).parent ≡ Some (n, l)) × (g.at n ≡ Some a → ⊥)) ⊎ ((g.at n ≡ Some a) × (g.at m ≡ Some b) × IsPlace f l)

module _ (IsPlace : ℕ → Label → Type 0) (h h' : Heap) (g g' : Named) (a f b na : ℕ) (forest : IsForest h) (s : IsSet_at h h' a f (Some b))
    (empty : h.to a f ≡ None) (top : (p i : ℕ) → h.to p i ≡ Some b → ⊥) (not_above : Below h b a → ⊥) (there : (h.has a ≡ true) × (h.has b ≡ true))
    (r : Relates IsPlace h g) (t : IsJoined_graph IsPlace h g g' a f b na) where
  pub was : (n o : ℕ) → Names g' n o → Names g n o
  was n o w = (t.lives n w.0, sym (t.at n) ∙ w.1)

  pub join_relates : Relates IsPlace h' g'
  join_relates = record {
    there = λ n o w. s.same o ∙ r.there n o (was n o w);
    apart = λ n m o x wn wm w. apart n m o x (was n o wn) (was m x wm) (join_splits h h' a f b forest s empty top not_above there o x w) (t.kinds n wn.0) (t.kinds m wm.0);
    headed = λ n m x hd ln wm same. headed n m x hd ln wm same (t.kinds n ln) (t.kinds m wm.0);
    edged = λ n m l e ln lm. edged n m l ln lm (t.edges n m l e ln lm);
    whole = λ n o p i w root_is e. whole n o p i w root_is (join_back h h' a f b forest s empty top not_above there p i o e) (t.kinds n w.0);
  }
    where
      -- above a and not joined, or below b and joined
      pair : (n m o x : ℕ) → Names g n o → Names g m x → Below h o a → Below h b x → IsJoined h g g' a b na n ⊎ IsOther h g g' b n →
          IsJoined h g g' a b na m ⊎ IsOther h g g' b m → (g'.node n).region ≡ (g'.node m).region
      pair n m o x wn wm up down (inl jn) km = absurd (not_above (joined h b o a (jn.below o wn.1) up))
      pair n m o x wn wm up down (inr on) (inl jm) = on.region ∙ r.apart n na o a wn jm.above up ∙ sym jm.region
      pair n m o x wn wm up down (inr on) (inr om) = absurd (om.outside x wm.1 down)

      before : (n m o x : ℕ) → Names g n o → Names g m x → Below h o x → IsJoined h g g' a b na n ⊎ IsOther h g g' b n →
          IsJoined h g g' a b na m ⊎ IsOther h g g' b m → (g'.node n).region ≡ (g'.node m).region
      before n m o x wn wm w (inl jn) (inl jm) = jn.region ∙ sym jm.region
      before n m o x wn wm w (inl jn) (inr om) = absurd (om.outside x wm.1 (joined h b o x (jn.below o wn.1) w))
      before n m o x wn wm w (inr on) (inl jm) = elim (comparable h forest o b x w (jm.below x wm.1)) [
        | inl up ↦ absurd (on.outside o wn.1 (Here (sym (above_top h forest o b top up))))
        | inr down ↦ absurd (on.outside o wn.1 down)
      ]
      before n m o x wn wm w (inr on) (inr om) = on.region ∙ r.apart n m o x wn wm w ∙ sym om.region

      apart : (n m o x : ℕ) → Names g n o → Names g m x → (Below h o x) ⊎ (Below h o a) × (Below h b x) → IsJoined h g g' a b na n ⊎ IsOther h g g' b n →
          IsJoined h g g' a b na m ⊎ IsOther h g g' b m → (g'.node n).region ≡ (g'.node m).region
      apart n m o x wn wm (inl w) kn km = before n m o x wn wm w kn km
      apart n m o x wn wm (inr both) kn km = pair n m o x wn wm both.0 both.1 kn km

      -- from above a to below b
      over : (o x : ℕ) → Below h o a → Below h b x → IsUnder h' o x
      over o x up down = under_below h' o b x (a, f, join_path h h' a f b forest s empty top not_above there o a up, s.is)
          (join_path h h' a f b forest s empty top not_above there b x down)

      headed : (n m x : ℕ) → (g'.node n).head ≡ true → is_gone (g'.node n).standing ≡ false → Names g' m x → (g'.node n).region ≡ (g'.node m).region →
          IsJoined h g g' a b na n ⊎ IsOther h g g' b n → IsJoined h g g' a b na m ⊎ IsOther h g g' b m →
          (n ≡ m) ⊎ ((o : ℕ) × (g'.at n ≡ Some o) × IsUnder h' o x)
      headed n m x hd ln wm same (inl jn) km = absurd (jn.head hd)
      headed n m x hd ln wm same (inr on) (inl jm) = elim (r.headed n na a (on.head hd) (t.lives n ln) jm.above (sym on.region ∙ same ∙ jm.region)) [
        | inl e ↦ inr (a, t.at n ∙ ap g.at e ∙ jm.above.1, over a x (Here refl) (jm.below x (was m x wm).1))
        | inr v ↦ inr (v.0, t.at n ∙ v.1, over v.0 x (below_of h v.0 a v.2) (jm.below x (was m x wm).1))
      ]
      headed n m x hd ln wm same (inr on) (inr om) = elim (r.headed n m x (on.head hd) (t.lives n ln) (was m x wm) (sym on.region ∙ same ∙ om.region)) [
        | inl e ↦ inl e
        | inr v ↦ inr (v.0, t.at n ∙ v.1, join_under h h' a f b forest s empty top not_above there v.0 x v.2)
      ]

      edged : (n m : ℕ) (l : Label) → is_gone (g'.node n).standing ≡ false → is_gone (g'.node m).standing ≡ false →
          (((g.node m).parent ≡ Some (n, l)) × (g.at n ≡ Some a → ⊥)) ⊎ ((g.at n ≡ Some a) × (g.at m ≡ Some b) × IsPlace f l) →
          (o : ℕ) × (g'.at n ≡ Some o) × IsEdge IsPlace h' o l (g'.at m)
      edged n m l ln lm (inr new) = (a, t.at n ∙ new.0, record { place = f; fits = new.2; holds = s.is ∙ sym new.1 ∙ sym (t.at m) })
      edged n m l ln lm (inl old) =
          let k = r.edged n m l old.0 (t.lives n ln) (t.lives m lm) in (
            k.0,
            t.at n ∙ k.1,
            record {
              place = k.2.place;
              fits = k.2.fits;
              holds = (elim (s.others k.0 k.2.place) as (λ _. h'.to k.0 k.2.place ≡ h.to k.0 k.2.place) [
                | inl w ↦ absurd (old.1 (k.1 ∙ ap Some w.0))
                | inr same ↦ same
              ]) ∙ k.2.holds ∙ sym (t.at m);
            },
          )

      whole : (n o p i : ℕ) → Names g' n o → (g'.node n).standing ≡ Root → ((p ≡ a) × (i ≡ f) × (b ≡ o)) ⊎ (h.to p i ≡ Some o) →
          IsJoined h g g' a b na n ⊎ IsOther h g g' b n → ⊥
      whole n o p i w root_is e (inl jn) = jn.standing o (was n o w).1 root_is
      whole n o p i w root_is (inl new) (inr on) = on.outside o (was n o w).1 (Here new.2)
      whole n o p i w root_is (inr e) (inr on) = r.whole n o p i (was n o w) (on.standing root_is) e
