-- The tree of b joins the region of a: the nodes of the table.
use Rattle.std.proofs.Common.{◌≡◌, ℕ, zero, suc, Bool, true, false, true≢false, Option, Some, None, List, [], ◌∷◌, eqb, refl, ap, sym, subst, ◌∙◌, ◌⊎◌, inl, inr, arith}
use Rattle.kilim_isolation_laws.specs.forest.Heap.{Heap, Below, Here, Then, IsUnder, IsForest, IsSet_at}
use Rattle.kilim_isolation_laws.specs.forest.Relation.{Standing, Root, Inner, Gone, is_gone, is_safe, Label, Node, Named, Names, IsEdge, Relates, Owns, Respects, RespectsAll, Frames}
use Rattle.kilim_isolation_laws.specs.forest.Steps.{pick, join_node}
use Rattle.kilim_isolation_laws.proofs.forest.Paths.{some_is, none_is_not, joined, below_of, one_step, here_or_under, under_below, below_under, comparable, never_round, above_top}
use Rattle.kilim_isolation_laws.proofs.forest.Join.{IsJoined, IsOther, IsJoined_graph, join_relates}
use Rattle.kilim_isolation_laws.proofs.forest.Store.{both_ways, is_same, is_not_same, same_is}

pub inner_is_no_root : Inner ≡ Root → ⊥
inner_is_no_root e = cc

pub record IsReady (IsPlace : ℕ → Label → Type 0) (h : Heap) (u : Named) (na nb a b f : ℕ) (l : Label) : Type 0 where
  pub names_a : Names u na a
  pub names_b : Names u nb b
  pub root : (u.node nb).standing ≡ Root
  pub head : (u.node nb).head ≡ true
  pub apart : (u.node nb).region ≡ (u.node na).region → ⊥
  pub no_edge_out : (n m : ℕ) (lb : Label) → (u.node m).parent ≡ Some (n, lb) → is_gone (u.node n).standing ≡ false → u.at n ≡ Some a → ⊥
  pub empty : h.to a f ≡ None
  pub place : IsPlace f l

module _ (IsPlace : ℕ → Label → Type 0) (h h' : Heap) (u : Named) (forest : IsForest h) (r : Relates IsPlace h u) (na nb a b f : ℕ) (l : Label)
    (y : IsReady IsPlace h u na nb a b f l) where
  abbrev pub join_named : Named
  join_named = record { node = λ n. join_node u.node na nb l n; at = u.at }

  abbrev pub joining : ℕ → Node
  joining n = record { region = (u.node na).region; standing = pick (eqb n nb) Inner (u.node n).standing; head = false; parent = pick (eqb n nb) (Some (na, l)) (u.node n).parent }

  pub in_node : (n : ℕ) → eqb (u.node n).region (u.node nb).region ≡ true → join_named.node n ≡ joining n
  in_node n e = ap (λ b. pick b (joining n) (u.node n)) e

  pub out_node : (n : ℕ) → eqb (u.node n).region (u.node nb).region ≡ false → join_named.node n ≡ u.node n
  out_node n e = ap (λ b. pick b (joining n) (u.node n)) e

  pub in_standing : (n : ℕ) → eqb (u.node n).region (u.node nb).region ≡ true → (n ≡ nb) × ((join_named.node n).standing ≡ Inner) ⊎ ((join_named.node n).standing ≡ (u.node n).standing)
  in_standing n e = elim (both_ways (eqb n nb)) [
    | inl it ↦ inl (is_same n nb it, ap (λ z. z.standing) (in_node n e) ∙ ap (λ b. pick b Inner (u.node n).standing) it)
    | inr other ↦ inr (ap (λ z. z.standing) (in_node n e) ∙ ap (λ b. pick b Inner (u.node n).standing) other)
  ]

  pub was_live : (n : ℕ) → is_gone (join_named.node n).standing ≡ false → is_gone (u.node n).standing ≡ false
  was_live n live = elim (both_ways (eqb (u.node n).region (u.node nb).region)) [
    | inl e ↦ elim (in_standing n e) [
      | inl new ↦ ap (λ z. is_gone (u.node z).standing) new.0 ∙ y.names_b.0
      | inr same ↦ ap is_gone (sym same) ∙ live
    ]
    | inr e ↦ ap (λ z. is_gone z.standing) (sym (out_node n e)) ∙ live
  ]

  pub is_joined : (n : ℕ) → is_gone (join_named.node n).standing ≡ false → eqb (u.node n).region (u.node nb).region ≡ true → IsJoined h u join_named a b na n
  is_joined n live e = record {
    region = ap (λ z. z.region) (in_node n e);
    above = y.names_a;
    head = λ hd. true≢false (sym hd ∙ ap (λ z. z.head) (in_node n e));
    standing = λ o at root_is. elim (in_standing n e) [
      | inl new ↦ inner_is_no_root (sym new.1 ∙ root_is)
      | inr same ↦ elim (under o at) [
        | inl is ↦ inner_is_no_root (sym (in_b is) ∙ root_is)
        | inr v ↦ r.whole n o v.0 v.1 (was_live n live, at) (sym same ∙ root_is) v.3
      ]
    ];
    below = λ o at. elim (under o at) [
      | inl is ↦ Here (some_is b o (sym y.names_b.1 ∙ ap u.at is ∙ at))
      | inr v ↦ below_of h b o v
    ];
  }
    where
      in_b : nb ≡ n → (join_named.node n).standing ≡ Inner
      in_b is = ap (λ z. z.standing) (in_node n e) ∙ ap (λ x. pick x Inner (u.node n).standing) (ap (λ z. eqb z nb) (sym is) ∙ same_is nb)

      under : (o : ℕ) → u.at n ≡ Some o → (nb ≡ n) ⊎ IsUnder h b o
      under o at = elim (r.headed nb n o y.head y.names_b.0 (was_live n live, at) (sym (is_same (u.node n).region (u.node nb).region e))) [
        | inl is ↦ inl is
        | inr v ↦ inr (subst (λ z. IsUnder h z o) (some_is v.0 b (sym v.1 ∙ y.names_b.1)) v.2)
      ]

  pub is_other : (n : ℕ) → is_gone (join_named.node n).standing ≡ false → eqb (u.node n).region (u.node nb).region ≡ false → IsOther h u join_named b n
  is_other n live e = record {
    region = ap (λ z. z.region) (out_node n e);
    head = λ hd. ap (λ z. z.head) (sym (out_node n e)) ∙ hd;
    standing = λ is. ap (λ z. z.standing) (sym (out_node n e)) ∙ is;
    outside = λ o at down. is_not_same (u.node n).region (u.node nb).region e (sym (r.apart nb n b o y.names_b (was_live n live, at) down));
  }

  pub edges : (n m : ℕ) (lb : Label) → (join_named.node m).parent ≡ Some (n, lb) → is_gone (join_named.node n).standing ≡ false →
      (((u.node m).parent ≡ Some (n, lb)) × (u.at n ≡ Some a → ⊥)) ⊎ ((u.at n ≡ Some a) × (u.at m ≡ Some b) × IsPlace f lb)
  edges n m lb e ln = elim (both_ways (eqb (u.node m).region (u.node nb).region)) [
    | inl in_it ↦ elim (both_ways (eqb m nb)) [
      | inl it ↦
          let p = sym (ap (λ z. z.parent) (in_node m in_it) ∙ ap (λ x. pick x (Some (na, l)) (u.node m).parent) it) ∙ e in
          inr (ap (λ q. u.at (parent_at q n)) (sym p) ∙ y.names_a.1, ap u.at (is_same m nb it) ∙ y.names_b.1, subst (λ q. IsPlace f (label_at q lb)) p y.place)
      | inr other ↦ old (sym (ap (λ z. z.parent) (in_node m in_it) ∙ ap (λ x. pick x (Some (na, l)) (u.node m).parent) other) ∙ e)
    ]
    | inr out ↦ old (ap (λ z. z.parent) (sym (out_node m out)) ∙ e)
  ]
    where
      parent_at : Option (ℕ × Label) → ℕ → ℕ
      parent_at None d = d
      parent_at (Some q) d = q.0

      label_at : Option (ℕ × Label) → Label → Label
      label_at None d = d
      label_at (Some q) d = q.1

      old : (u.node m).parent ≡ Some (n, lb) → (((u.node m).parent ≡ Some (n, lb)) × (u.at n ≡ Some a → ⊥)) ⊎ ((u.at n ≡ Some a) × (u.at m ≡ Some b) × IsPlace f lb)
      old p = inl (p, y.no_edge_out n m lb p (was_live n ln))

  pub join_graph : IsJoined_graph IsPlace h u join_named a f b na
  join_graph = record {
    at = λ n. refl;
    lives = was_live;
    kinds = λ n live. elim (both_ways (eqb (u.node n).region (u.node nb).region)) [ inl e ↦ inl (is_joined n live e) | inr e ↦ inr (is_other n live e) ];
    edges = λ n m lb e ln lm. edges n m lb e ln;
  }

  pub not_above : Below h b a → ⊥
  not_above down = y.apart (r.apart nb na b a y.names_b y.names_a down)

  pub top : (p i : ℕ) → h.to p i ≡ Some b → ⊥
  top p i e = r.whole nb b p i y.names_b y.root e

  pub both_there : (h.has a ≡ true) × (h.has b ≡ true)
  both_there = (r.there na a y.names_a, r.there nb b y.names_b)

  pub store_join : IsSet_at h h' a f (Some b) → Relates IsPlace h' join_named
  store_join s = join_relates IsPlace h h' u join_named a f b na forest s y.empty top not_above both_there r join_graph
