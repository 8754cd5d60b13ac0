-- A store into a field keeps the relation of all frames of the thread.
use Rattle.std.proofs.Common.{◌≡◌, ℕ, zero, suc, Bool, true, false, true≢false, Option, Some, None, List, [], ◌∷◌, eqb, refl, ap, sym, subst, ◌∙◌, ◌⊎◌, inl, inr, arith}
use Rattle.kilim_isolation_laws.specs.forest.Heap.{Heap, Below, Here, Then, IsUnder, IsForest, IsSet_at}
use Rattle.kilim_isolation_laws.specs.forest.Relation.{Standing, Root, Inner, Safe, Gone, is_gone, is_safe, Label, Node, Named, Names, IsEdge, Relates, Owns, Respects, RespectsAll, Frames}
use Rattle.kilim_isolation_laws.specs.forest.Steps.{pick, cut_node, join_node, is_part, IsTidy, IsField_store}
use Rattle.kilim_isolation_laws.proofs.forest.Paths.{some_is, one_step, below_of, under_below}
use Rattle.kilim_isolation_laws.proofs.forest.Forests.{cut_forest, join_forest}
use Rattle.kilim_isolation_laws.proofs.forest.Frames.{respects_from, respects_kept, respects_each, lower_kept, cut_lower, cut_way, join_lower, join_way, ComesFrom}
use Rattle.kilim_isolation_laws.proofs.forest.Cut.{IsPart, IsRest, IsCut_graph}
use Rattle.kilim_isolation_laws.proofs.forest.Store.{both_ways, is_same, is_not_same, same_is, cut_named, store_cut, cut_graph, no_edge_out, a_before, root_before, has_some, some_or}
use Rattle.kilim_isolation_laws.proofs.forest.Joins.{IsReady, join_named, store_join, not_above, top, both_there, was_live, in_standing, out_node}

abbrev pub emptied : Heap → ℕ → ℕ → Heap
emptied h a f = record { has = h.has; to = λ o i. pick (eqb o a) (pick (eqb i f) None (h.to o i)) (h.to o i) }

pub at_place : (h : Heap) (a f o i : ℕ) → ((o ≡ a) × (i ≡ f)) ⊎ ((emptied h a f).to o i ≡ h.to o i)
at_place h a f o i = elim (both_ways (eqb o a)) [
  | inl e ↦ elim (both_ways (eqb i f)) [
    | inl g ↦ inl (is_same o a e, is_same i f g)
    | inr g ↦ inr (ap (λ b. pick b (pick (eqb i f) None (h.to o i)) (h.to o i)) e ∙ ap (λ b. pick b None (h.to o i)) g)
  ]
  | inr e ↦ inr (ap (λ b. pick b (pick (eqb i f) None (h.to o i)) (h.to o i)) e)
]

pub emptied_is : (h : Heap) (a f : ℕ) → IsSet_at h (emptied h a f) a f None
emptied_is h a f = record {
  is = ap (λ b. pick b (pick (eqb f f) None (h.to a f)) (h.to a f)) (same_is a) ∙ ap (λ b. pick b None (h.to a f)) (same_is f);
  others = at_place h a f;
  same = λ o. refl;
}

pub filled_is : (h h' : Heap) (a f : ℕ) (v : Option ℕ) → IsSet_at h h' a f v → IsSet_at (emptied h a f) h' a f v
filled_is h h' a f v s = record {
  is = s.is;
  others = λ o i. elim (s.others o i) [
    | inl w ↦ inl w
    | inr same ↦ elim (at_place h a f o i) [ inl w ↦ inl w | inr e ↦ inr (same ∙ sym e) ]
  ];
  same = s.same;
}

pub inner_not_root : Inner ≡ Root → ⊥
inner_not_root e = cc

module _ (IsPlace : ℕ → Label → Type 0) (h h' : Heap) (u : Named) (ls : List Named) (forest : IsForest h) (fs : Frames IsPlace h (u ∷ ls)) (tidy : IsTidy u.node)
    (na nb a b f fuel new : ℕ) (l : Label) (c : Option ℕ) (y : IsField_store IsPlace h u na nb a b f new l c) (s : IsSet_at h h' a f (Some b)) where
  pub r : Relates IsPlace h u
  r = fs.0

  pub h1 : Heap
  h1 = emptied h a f

  pub names_a : Names u na a
  names_a = (y.owns_a.0, y.owns_a.2)

  abbrev pub u1 : Named
  u1 = cut_named IsPlace h (emptied h a f) u forest fs.0 tidy na a f fuel new l c (y.owns_a.0, y.owns_a.2) y.fresh y.child (emptied_is h a f)

  abbrev pub after_store : Named
  after_store = record { node = λ n. join_node (λ m. cut_node u.node fuel na c new m) na nb l n; at = u.at }

  pub r1 : Relates IsPlace (emptied h a f) u1
  r1 = store_cut IsPlace h (emptied h a f) u forest fs.0 tidy na a f fuel new l c (y.owns_a.0, y.owns_a.2) y.fresh y.child (emptied_is h a f)

  pub a_same : Names u1 na a × ((u1.node na).standing ≡ (u.node na).standing) × ((u1.node na).region ≡ (u.node na).region) × ((u1.node na).head ≡ (u.node na).head)
  a_same = a_before IsPlace h (emptied h a f) u forest fs.0 tidy na a f fuel new l c (y.owns_a.0, y.owns_a.2) y.fresh y.child (emptied_is h a f)

  pub b_same : Names u1 nb b × ((u1.node nb).standing ≡ (u.node nb).standing) × ((u1.node nb).region ≡ (u.node nb).region) × ((u1.node nb).head ≡ (u.node nb).head)
  b_same = root_before IsPlace h (emptied h a f) u forest fs.0 tidy na a f fuel new l c (y.owns_a.0, y.owns_a.2) y.fresh y.child (emptied_is h a f) nb b (y.names_b) y.root y.apart

  pub forest1 : IsForest (emptied h a f)
  forest1 = cut_forest h (emptied h a f) a f forest (emptied_is h a f)

  pub ready : IsReady IsPlace (emptied h a f) u1 na nb a b f l
  ready = record {
    names_a = a_same.0;
    names_b = b_same.0;
    root = b_same.1 ∙ y.root;
    head = b_same.3 ∙ tidy.roots nb y.root;
    apart = λ e. y.apart (sym b_same.2 ∙ e ∙ a_same.2);
    no_edge_out = λ n m lb e ln.
        (no_edge_out IsPlace h (emptied h a f) u forest fs.0 tidy na a f fuel new l c (y.owns_a.0, y.owns_a.2) y.fresh y.child (emptied_is h a f) n m lb e ln).1;
    empty = (emptied_is h a f).is;
    place = y.place;
  }

  pub set1 : IsSet_at (emptied h a f) h' a f (Some b)
  set1 = filled_is h h' a f (Some b) s

  pub stored_relates : Relates IsPlace h' after_store
  stored_relates = store_join IsPlace (emptied h a f) h' u1 forest1 r1 na nb a b f l ready set1

  pub stored_forest : IsForest h'
  stored_forest = join_forest (emptied h a f) h' a f b forest1 set1 ready.empty
      (top IsPlace (emptied h a f) h' u1 forest1 r1 na nb a b f l ready) (not_above IsPlace (emptied h a f) h' u1 forest1 r1 na nb a b f l ready)
      (both_there IsPlace (emptied h a f) h' u1 forest1 r1 na nb a b f l ready)

  -- the lower frames after the cut
  pub respects1 : (lo : Named) → Respects h u lo → Respects (emptied h a f) u1 lo
  respects1 lo rs = respects_kept h (emptied h a f) u1 lo (cut_way IsPlace h (emptied h a f) a f forest u lo na y.owns_a rs (emptied_is h a f)) (respects_from h u u1 lo from rs)
    where
      graph : IsCut_graph h u u1 a f (has_some c) new (some_or c)
      graph = cut_graph IsPlace h (emptied h a f) u forest fs.0 tidy na a f fuel new l c (y.owns_a.0, y.owns_a.2) y.fresh y.child (emptied_is h a f) c refl

      from : (n o : ℕ) → Owns u1 n o → ComesFrom h u u1 lo n o
      from n o w = elim (graph.kinds n w.0) [
        | inl part ↦ inl (inr (
          na,
          a,
          y.owns_a,
          (elim part.below [
            | inl e ↦ one_step h a f o (sym part.cut ∙ ap u.at (sym e) ∙ w.2)
            | inr under ↦ under_below h a (under o w.2).0 o (one_step h a f (under o w.2).0 (under o w.2).1) (below_of h (under o w.2).0 o (under o w.2).2)
          ]),
        ))
        | inr rest ↦ inl (inl (n, (graph.lives n w.0, rest.safe w.1, w.2), rest.standing))
      ]

  pub owns_a1 : Owns u1 na a
  owns_a1 = (a_same.0.0, ap is_safe a_same.1 ∙ y.owns_a.1, a_same.0.1)

  pub owns_b1 : Owns u1 nb b
  owns_b1 = (b_same.0.0, ap is_safe (b_same.1 ∙ y.root), b_same.0.1)

  -- and after the join
  pub respects2 : (lo : Named) → Respects h u lo → Respects h' after_store lo
  respects2 lo rs =
      let rs1 = respects1 lo rs in
      respects_kept (emptied h a f) h' after_store lo (join_way IsPlace (emptied h a f) h' a f forest1 u1 lo na owns_a1 rs1 b nb set1 ready.empty
      (top IsPlace (emptied h a f) h' u1 forest1 r1 na nb a b f l ready) (not_above IsPlace (emptied h a f) h' u1 forest1 r1 na nb a b f l ready)
      (both_there IsPlace (emptied h a f) h' u1 forest1 r1 na nb a b f l ready) owns_b1 ready.root)
      (respects_from (emptied h a f) u1 after_store lo from rs1)
    where
      from : (n o : ℕ) → Owns after_store n o → ComesFrom (emptied h a f) u1 after_store lo n o
      from n o w = inl (inl (n, (was_live IsPlace (emptied h a f) h' u1 forest1 r1 na nb a b f l ready n w.0, safe, w.2), was_root))
        where
          kept : (after_store.node n).standing ≡ (u1.node n).standing ⊎ (n ≡ nb) × ((after_store.node n).standing ≡ Inner)
          kept = elim (both_ways (eqb (u1.node n).region (u1.node nb).region)) [
            | inl e ↦ elim (in_standing IsPlace (emptied h a f) h' u1 forest1 r1 na nb a b f l ready n e) [ inl new_one ↦ inr new_one | inr same ↦ inl same ]
            | inr e ↦ inl (ap (λ z. z.standing) (out_node IsPlace (emptied h a f) h' u1 forest1 r1 na nb a b f l ready n e))
          ]

          safe : is_safe (u1.node n).standing ≡ false
          safe = elim kept [
            | inl same ↦ ap is_safe (sym same) ∙ w.1
            | inr v ↦ ap (λ z. is_safe (u1.node z).standing) v.0 ∙ owns_b1.1
          ]

          was_root : (after_store.node n).standing ≡ Root → (u1.node n).standing ≡ Root
          was_root is = elim kept [
            | inl same ↦ sym same ∙ is
            | inr v ↦ absurd (inner_not_root (sym v.1 ∙ is))
          ]

  pub lower1 : Frames IsPlace (emptied h a f) ls
  lower1 = lower_kept IsPlace h (emptied h a f) u (λ lo rs r0. cut_lower IsPlace h (emptied h a f) a f forest u lo na y.owns_a rs (emptied_is h a f) r0)
      (λ lo rs. cut_way IsPlace h (emptied h a f) a f forest u lo na y.owns_a rs (emptied_is h a f)) ls fs.1 fs.2

  pub lower2 : Frames IsPlace h' ls
  lower2 = lower_kept IsPlace (emptied h a f) h' u1
      (λ lo rs r0. join_lower IsPlace (emptied h a f) h' a f forest1 u1 lo na owns_a1 rs b nb set1 ready.empty
      (top IsPlace (emptied h a f) h' u1 forest1 r1 na nb a b f l ready) (not_above IsPlace (emptied h a f) h' u1 forest1 r1 na nb a b f l ready)
      (both_there IsPlace (emptied h a f) h' u1 forest1 r1 na nb a b f l ready) owns_b1 ready.root r0)
      (λ lo rs. join_way IsPlace (emptied h a f) h' a f forest1 u1 lo na owns_a1 rs b nb set1 ready.empty
      (top IsPlace (emptied h a f) h' u1 forest1 r1 na nb a b f l ready) (not_above IsPlace (emptied h a f) h' u1 forest1 r1 na nb a b f l ready)
      (both_there IsPlace (emptied h a f) h' u1 forest1 r1 na nb a b f l ready) owns_b1 ready.root)
      ls (respects_each h (emptied h a f) u u1 respects1 ls fs.1) lower1

  -- the store keeps the relation of all frames
  pub stored : IsForest h' × Frames IsPlace h' (after_store ∷ ls)
  stored = (stored_forest, (stored_relates, respects_each h h' u after_store respects2 ls fs.1, lower2))
