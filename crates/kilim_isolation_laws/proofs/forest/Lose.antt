-- The relation is kept where a tree leaves the heap.
use Rattle.std.proofs.Common.{◌≡◌, ℕ, Bool, true, false, Option, Some, None, refl, ap, sym, subst, ◌∙◌, ◌⊎◌, inl, inr, arith}
use Rattle.kilim_isolation_laws.specs.forest.Heap.{Heap, Below, Here, Then, IsUnder, IsForest, IsWithout}
use Rattle.kilim_isolation_laws.specs.forest.Relation.{Standing, Root, is_gone, Label, Node, Named, Names, IsEdge, Relates}
use Rattle.kilim_isolation_laws.proofs.forest.Paths.{joined}
use Rattle.kilim_isolation_laws.proofs.forest.Forests.{ends_fewer}

module _ (IsPlace : ℕ → Label → Type 0) (h h' : Heap) (b : ℕ) (forest : IsForest h) (s : IsWithout h h' b) (top : (p i : ℕ) → h.to p i ≡ Some b → ⊥) where
  pub without_edge : (p i x : ℕ) → h'.to p i ≡ Some x → h.to p i ≡ Some x
  without_edge p i x e = sym (s.same p i (s.from p i x e)) ∙ e

  -- what holds something that stays, stays
  pub stays : (p i x : ℕ) → (Below h b x → ⊥) → h.to p i ≡ Some x → h'.has p ≡ true
  stays p i x not e = elim (s.rest p (forest.there p i x e).0) [
    | inl down ↦ absurd (not (Then p i down e))
    | inr here ↦ here
  ]

  pub without_survives : (o x : ℕ) → (Below h b x → ⊥) → Below h o x → Below h' o x
  without_survives o x not (Here e) = Here e
  without_survives o x not (Then p i w e) = Then p i (without_survives o p (λ down. not (Then p i down e)) w) (s.same p i (stays p i x not e) ∙ e)

  pub without_path : (o x : ℕ) → Below h' o x → Below h o x
  without_path o x (Here e) = Here e
  without_path o x (Then p i w e) = Then p i (without_path o p w) (without_edge p i x e)

  pub without_forest : IsForest h'
  without_forest = record {
    one = λ x p q i j e g. forest.one x p q i j (without_edge p i x e) (without_edge q j x g);
    ends = λ x. ends_fewer h h' without_edge x (forest.ends x);
    there = λ p i x e. (
      s.from p i x e,
      elim (s.rest x (forest.there p i x (without_edge p i x e)).1) [
        | inl down ↦ absurd (inside p i x (without_edge p i x e) (s.from p i x e) down)
        | inr here ↦ here
      ],
    );
  }
    where
      inside : (p i x : ℕ) → h.to p i ≡ Some x → h'.has p ≡ true → Below h b x → ⊥
      inside p i x e here (Here r) = top p i (e ∙ ap Some (sym r))
      inside p i x e here (Then q j w f) = s.out p here (subst (λ z. Below h b z) (forest.one x q p j i f e).0 w)

  pub without_relates : (g : Named) → Relates IsPlace h g → ((n o : ℕ) → Names g n o → Below h b o → ⊥) → Relates IsPlace h' g
  without_relates g r outside = record {
    there = λ n o w. elim (s.rest o (r.there n o w)) [ inl down ↦ absurd (outside n o w down) | inr here ↦ here ];
    apart = λ n m o x wn wm w. r.apart n m o x wn wm (without_path o x w);
    headed = λ n m x hd ln wm same. elim (r.headed n m x hd ln wm same) [
      | inl e ↦ inl e
      | inr v ↦ inr (
        v.0,
        v.1,
        (
          v.2.0,
          v.2.1,
          without_survives v.0 v.2.0 (λ down. outside m x wm (Then v.2.0 v.2.1 down v.2.3)) v.2.2,
          s.same v.2.0 v.2.1 (stays v.2.0 v.2.1 x (outside m x wm) v.2.3) ∙ v.2.3,
        ),
      )
    ];
    edged = λ n m l e ln lm.
        let k = r.edged n m l e ln lm in (
          k.0,
          k.1,
          record {
            place = k.2.place;
            fits = k.2.fits;
            holds = s.same k.0 k.2.place (elim (s.rest k.0 (r.there n k.0 (ln, k.1))) [ inl down ↦ absurd (outside n k.0 (ln, k.1) down) | inr here ↦ here ]) ∙ k.2.holds;
          },
        );
    whole = λ n o p i w root_is e. r.whole n o p i w root_is (without_edge p i o e);
  }
