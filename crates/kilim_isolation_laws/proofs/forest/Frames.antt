-- What the top frame does leaves the lower frames alone.
use Rattle.std.proofs.Common.{◌≡◌, ℕ, Bool, true, false, true≢false, Option, Some, None, List, [], ◌∷◌, refl, ap, sym, subst, ◌∙◌, ◌⊎◌, inl, inr, arith}
use Rattle.kilim_isolation_laws.specs.forest.Heap.{Heap, Below, Here, Then, IsUnder, IsForest, IsSet_at, IsWithout, IsMore_objects}
use Rattle.kilim_isolation_laws.specs.forest.Relation.{Standing, Root, is_gone, is_safe, Label, Node, Named, Names, IsEdge, Relates, Owns, Respects, RespectsAll, Frames}
use Rattle.kilim_isolation_laws.proofs.forest.Paths.{some_is, none_is_not, joined, below_of, one_step, here_or_under, under_below, below_under, comparable, never_round, above_top}
use Rattle.kilim_isolation_laws.proofs.forest.Forests.{cut_edge, cut_path, cut_forest, cut_stays, join_back, join_splits}
use Rattle.kilim_isolation_laws.proofs.forest.Cut.{IsRest, IsCut_graph, cut_relates}
use Rattle.kilim_isolation_laws.proofs.forest.Join.{IsOther, IsJoined_graph, join_relates}
use Rattle.kilim_isolation_laws.proofs.forest.Lose.{without_path, without_edge, without_relates}
use Rattle.kilim_isolation_laws.proofs.forest.Grow.{more_path_back, more_back, more_relates}

-- a heap with no new way to an object of this frame
abbrev pub NoNewWay : Heap → Heap → Named → Type 0
NoNewWay h h' l = (m x o : ℕ) → Names l m x → IsUnder h' o x → IsUnder h o x

pub respects_kept : (h h' : Heap) (u l : Named) → NoNewWay h h' l → Respects h u l → Respects h' u l
respects_kept h h' u l way r = record {
  strictly = λ n o m x wn wm under. r.strictly n o m x wn wm (way m x o wm under);
  root = r.root;
  no_edge = r.no_edge;
}

-- the lower frames, where each that the top frame respects keeps its relation and has no new way
pub lower_kept : (p : ℕ → Label → Type 0) (h h' : Heap) (top : Named) → ((l : Named) → Respects h top l → Relates p h l → Relates p h' l) →
    ((l : Named) → Respects h top l → NoNewWay h h' l) → (ls : List Named) → RespectsAll h top ls → Frames p h ls → Frames p h' ls
lower_kept p h h' top keeps ways [] rs f = tt
lower_kept p h h' top keeps ways (l ∷ ls) rs f = (keeps l rs.0 f.0, between ls rs.1 f.1, lower_kept p h h' top keeps ways ls rs.1 f.2)
  where
    between : (ks : List Named) → RespectsAll h top ks → RespectsAll h l ks → RespectsAll h' l ks
    between [] us vs = tt
    between (k ∷ ks) us vs = (respects_kept h h' l k (ways k us.0) vs.0, between ks us.1 vs.1)

pub respects_each : (h h' : Heap) (u u' : Named) → ((l : Named) → Respects h u l → Respects h' u' l) → (ls : List Named) → RespectsAll h u ls → RespectsAll h' u' ls
respects_each h h' u u' step [] rs = tt
respects_each h h' u u' step (l ∷ ls) rs = (step l rs.0, respects_each h h' u u' step ls rs.1)

-- where what the top frame may change comes from
abbrev pub ComesFrom : Heap → Named → Named → Named → ℕ → ℕ → Type 0
ComesFrom h u u' l n o =
    (((m : ℕ) × Owns u m o × ((u'.node n).standing ≡ Root → (u.node m).standing ≡ Root)) ⊎
    ((m : ℕ) × (a : ℕ) × Owns u m a × IsUnder h a o)) ⊎ ((m x : ℕ) → Names l m x → Below h o x → ⊥)

pub respects_from : (h : Heap) (u u' l : Named) → ((n o : ℕ) → Owns u' n o → ComesFrom h u u' l n o) → Respects h u l → Respects h u' l
respects_from h u u' l from r = record {
  strictly = λ n o m x wn wm under. strictly n o m x wm under (from n o wn);
  root = λ n o m wn root_is wm. root n o m root_is wm (from n o wn);
  no_edge = λ n o m k lb wn wm e live. no_edge n o m k lb wm e live (from n o wn);
}
  where
    strictly : (n o m x : ℕ) → Names l m x → IsUnder h o x → ComesFrom h u u' l n o → ⊥
    strictly n o m x wm under (inl (inl same)) = r.strictly same.0 o m x same.1 wm under
    strictly n o m x wm under (inl (inr part)) = r.strictly part.0 part.1 m x part.2 wm (under_below h part.1 o x part.3 (below_of h o x under))
    strictly n o m x wm under (inr new) = new m x wm (below_of h o x under)

    root : (n o m : ℕ) → (u'.node n).standing ≡ Root → Names l m o → ComesFrom h u u' l n o → ⊥
    root n o m root_is wm (inl (inl same)) = r.root same.0 o m same.1 (same.2 root_is) wm
    root n o m root_is wm (inl (inr part)) = r.strictly part.0 part.1 m o part.2 wm part.3
    root n o m root_is wm (inr new) = new m o wm (Here refl)

    no_edge : (n o m k : ℕ) (lb : Label) → Names l m o → (l.node k).parent ≡ Some (m, lb) → is_gone (l.node k).standing ≡ false → ComesFrom h u u' l n o → ⊥
    no_edge n o m k lb wm e live (inl (inl same)) = r.no_edge same.0 o m k lb same.1 wm e live
    no_edge n o m k lb wm e live (inl (inr part)) = r.strictly part.0 part.1 m o part.2 wm part.3
    no_edge n o m k lb wm e live (inr new) = new m o wm (Here refl)

module _ (IsPlace : ℕ → Label → Type 0) (h h' : Heap) (a f : ℕ) (forest : IsForest h) (u l : Named) (na : ℕ) (owns : Owns u na a) (rs : Respects h u l) where
  pub edge_not : (n m : ℕ) (lb : Label) → (l.node m).parent ≡ Some (n, lb) → is_gone (l.node n).standing ≡ false → is_gone (l.node m).standing ≡ false → l.at n ≡ Some a → ⊥
  edge_not n m lb e ln lm at = rs.no_edge na a n m lb owns (ln, at) e lm

  module _ (s : IsSet_at h h' a f None) where
    pub cut_lower : Relates IsPlace h l → Relates IsPlace h' l
    cut_lower r = cut_relates IsPlace h h' l l a f false 0 0 forest s r (record {
      at = λ n. refl;
      lives = λ n e. e;
      kinds = λ n ln. inr (record {
        region = refl;
        other = λ e. absurd (true≢false (sym e));
        head = λ e. e;
        standing = λ e. e;
        safe = λ e. e;
        outside = λ o at under. rs.strictly na a n o owns (ln, at) under;
      });
      edges = λ n m lb e ln lm. (e, edge_not n m lb e ln lm);
    })

    pub cut_way : NoNewWay h h' l
    cut_way m x o w under = (under.0, under.1, cut_path h h' a f forest s o under.0 under.2, cut_edge h h' a f forest s under.0 under.1 x under.3)

  module _ (b nb : ℕ) (s : IsSet_at h h' a f (Some b)) (empty : h.to a f ≡ None) (top : (p i : ℕ) → h.to p i ≡ Some b → ⊥) (not_above : Below h b a → ⊥)
      (there : (h.has a ≡ true) × (h.has b ≡ true)) (owns_b : Owns u nb b) (b_root : (u.node nb).standing ≡ Root) where
    outside : (m x : ℕ) → Names l m x → Below h b x → ⊥
    outside m x w down = elim (here_or_under h b x down) [
      | inl e ↦ rs.root nb b m owns_b b_root (subst (λ z. Names l m z) (sym e) w)
      | inr under ↦ rs.strictly nb b m x owns_b w under
    ]

    pub join_lower : Relates IsPlace h l → Relates IsPlace h' l
    join_lower r = join_relates IsPlace h h' l l a f b 0 forest s empty top not_above there r (record {
      at = λ n. refl;
      lives = λ n e. e;
      kinds = λ n ln. inr (record { region = refl; head = λ e. e; standing = λ e. e; outside = λ o at down. outside n o (ln, at) down });
      edges = λ n m lb e ln lm. inl (e, edge_not n m lb e ln lm);
    })

    pub join_way : NoNewWay h h' l
    join_way m x o w under = elim (join_back h h' a f b forest s empty top not_above there under.0 under.1 x under.3) [
      | inl new ↦ absurd (outside m x w (Here new.2))
      | inr e ↦ elim (join_splits h h' a f b forest s empty top not_above there o under.0 under.2) [
        | inl old ↦ (under.0, under.1, old, e)
        | inr both ↦ absurd (outside m x w (Then under.0 under.1 both.1 e))
      ]
    ]

module _ (IsPlace : ℕ → Label → Type 0) (h h' : Heap) (u l : Named) (b nb : ℕ) (forest : IsForest h) (s : IsWithout h h' b) (top : (p i : ℕ) → h.to p i ≡ Some b → ⊥)
    (owns_b : Owns u nb b) (b_root : (u.node nb).standing ≡ Root) (rs : Respects h u l) where
  pub without_lower : Relates IsPlace h l → Relates IsPlace h' l
  without_lower r = without_relates IsPlace h h' b forest s top l r (λ m x w down. elim (here_or_under h b x down) [
    | inl e ↦ rs.root nb b m owns_b b_root (subst (λ z. Names l m z) (sym e) w)
    | inr under ↦ rs.strictly nb b m x owns_b w under
  ])

  pub without_way : NoNewWay h h' l
  without_way m x o w under = (under.0, under.1, without_path IsPlace h h' b forest s top o under.0 under.2, without_edge IsPlace h h' b forest s top under.0 under.1 x under.3)

pub more_way : (IsPlace : ℕ → Label → Type 0) (h h' : Heap) (forest : IsForest h) (s : IsMore_objects h h') (l : Named) → Relates IsPlace h l → NoNewWay h h' l
more_way IsPlace h h' forest s l r m x o w under =
    let e = more_back IsPlace h h' forest s under.0 under.1 x (r.there m x w) under.3 in
    (under.0, under.1, more_path_back IsPlace h h' forest s o under.0 (forest.there under.0 under.1 x e).0 under.2, e)
