-- The other steps, for all frames of the thread.
use Rattle.std.proofs.Common.{◌≡◌, ℕ, zero, suc, Bool, true, false, true≢false, Option, Some, None, List, [], ◌∷◌, eqb, refl, ap, sym, subst, ◌∙◌, ◌⊎◌, inl, inr, arith}
use Rattle.kilim_isolation_laws.specs.forest.Heap.{Heap, Below, Here, Then, IsUnder, IsForest, IsSet_at, IsWithout, IsMore_objects}
use Rattle.kilim_isolation_laws.specs.forest.Relation.{Standing, Root, Inner, Safe, Gone, is_gone, is_safe, Label, Node, Named, Names, IsEdge, Relates, Owns, Respects, RespectsAll, Frames}
use Rattle.kilim_isolation_laws.specs.forest.Steps.{pick, either, climbs, is_left, no_parent, cut_node, gone_node, set_node, IsTidy}
use Rattle.kilim_isolation_laws.proofs.forest.Paths.{some_is, one_step, below_of, under_below, here_or_under, never_round}
use Rattle.kilim_isolation_laws.proofs.forest.Frames.{respects_from, respects_kept, respects_each, lower_kept, ComesFrom, without_lower, without_way, more_way}
use Rattle.kilim_isolation_laws.proofs.forest.Store.{both_ways, is_same, is_not_same, same_is}
use Rattle.kilim_isolation_laws.proofs.forest.Less.{IsLess, less_relates, less_respects, less_respected, lives, was}
use Rattle.kilim_isolation_laws.proofs.forest.Lose.{without_forest, without_relates}
use Rattle.kilim_isolation_laws.proofs.forest.Grow.{IsMore_nodes, IsChild, IsNew_root, child_relates, root_relates, more_relates}
use Rattle.kilim_isolation_laws.proofs.forest.View.{IsView, view_relates, respects_view}
use Rattle.kilim_isolation_laws.proofs.forest.Calls.{IsAfter_call, call_respects}

-- the region of b is gone
module _ (u : Named) (nb : ℕ) where
  abbrev pub gone_named : Named
  gone_named = record { node = λ n. gone_node u.node nb n; at = u.at }

  pub gone_same : (n : ℕ) → eqb (u.node n).region (u.node nb).region ≡ false → gone_named.node n ≡ u.node n
  gone_same n e = ap (λ b. pick b (record (u.node n) { standing = Gone }) (u.node n)) e

  pub gone_is : (n : ℕ) → eqb (u.node n).region (u.node nb).region ≡ true → gone_named.node n ≡ record (u.node n) { standing = Gone }
  gone_is n e = ap (λ b. pick b (record (u.node n) { standing = Gone }) (u.node n)) e

  pub gone_elsewhere : (n : ℕ) → is_gone (gone_named.node n).standing ≡ false → (u.node n).region ≡ (u.node nb).region → ⊥
  gone_elsewhere n live same = elim (both_ways (eqb (u.node n).region (u.node nb).region)) [
    | inl e ↦ true≢false (sym (ap (λ z. is_gone z.standing) (gone_is n e)) ∙ live)
    | inr e ↦ is_not_same (u.node n).region (u.node nb).region e same
  ]

  pub gone_less : IsLess u gone_named
  gone_less = record {
    at = λ n. refl;
    standing = λ n live. elim (both_ways (eqb (u.node n).region (u.node nb).region)) [
      | inl e ↦ absurd (true≢false (sym (ap (λ z. is_gone z.standing) (gone_is n e)) ∙ live))
      | inr e ↦ ap (λ z. z.standing) (gone_same n e)
    ];
    region = λ n. elim (both_ways (eqb (u.node n).region (u.node nb).region)) [ inl e ↦ ap (λ z. z.region) (gone_is n e) | inr e ↦ ap (λ z. z.region) (gone_same n e) ];
    head = λ n. elim (both_ways (eqb (u.node n).region (u.node nb).region)) [ inl e ↦ ap (λ z. z.head) (gone_is n e) | inr e ↦ ap (λ z. z.head) (gone_same n e) ];
    edges = λ n m l e. elim (both_ways (eqb (u.node m).region (u.node nb).region)) [
      | inl x ↦ ap (λ z. z.parent) (sym (gone_is m x)) ∙ e
      | inr x ↦ ap (λ z. z.parent) (sym (gone_same m x)) ∙ e
    ];
  }

-- a put or start
module _ (IsPlace : ℕ → Label → Type 0) (h h' : Heap) (u : Named) (ls : List Named) (forest : IsForest h) (fs : Frames IsPlace h (u ∷ ls)) (nb b : ℕ)
    (names_b : Names u nb b) (root : (u.node nb).standing ≡ Root) (s : IsWithout h h' b) where
  pub top : (p i : ℕ) → h.to p i ≡ Some b → ⊥
  top p i e = fs.0.whole nb b p i names_b root e

  pub owns_b : Owns u nb b
  owns_b = (names_b.0, ap is_safe root, names_b.1)

  pub put_keeps : IsForest h' × Frames IsPlace h' (gone_named u nb ∷ ls)
  put_keeps = (
    without_forest IsPlace h h' b forest s top,
    (
      without_relates IsPlace h h' b forest s top (gone_named u nb) (less_relates IsPlace h u (gone_named u nb) (gone_less u nb) fs.0)
          (λ n o w down. gone_elsewhere u nb n w.0 (sym (fs.0.apart nb n b o names_b (was IsPlace h u (gone_named u nb) (gone_less u nb) n o w) down))),
      respects_each h h' u (gone_named u nb) (λ l rs. respects_kept h h' (gone_named u nb) l (without_way IsPlace h h' u l b nb forest s top owns_b root rs)
          (less_respects IsPlace h u (gone_named u nb) (gone_less u nb) l rs)) ls fs.1,
      lower_kept IsPlace h h' u (λ l rs r. without_lower IsPlace h h' u l b nb forest s top owns_b root rs r)
          (λ l rs. without_way IsPlace h h' u l b nb forest s top owns_b root rs) ls fs.1 fs.2,
    ),
  )

-- no frame below meets the tree of this value
abbrev pub AllBelow : Heap → Option ℕ → List Named → Type 0
AllBelow h value [] = Unit {0}
AllBelow h value (l ∷ ls) = ((o m x : ℕ) → value ≡ Some o → Names l m x → Below h o x → ⊥) × AllBelow h value ls

-- a node that comes
module _ (u : Named) (k : ℕ) (node : Node) (value : Option ℕ) where
  abbrev pub set_named : Named
  set_named = record { node = λ n. set_node u.node k node n; at = λ n. pick (eqb n k) value (u.at n) }

  pub set_here : (set_named.node k ≡ node) × (set_named.at k ≡ value)
  set_here = (ap (λ b. pick b node (u.node k)) (same_is k), ap (λ b. pick b value (u.at k)) (same_is k))

  pub set_there : (n : ℕ) → (n ≡ k) ⊎ ((set_named.node n ≡ u.node n) × (set_named.at n ≡ u.at n))
  set_there n = elim (both_ways (eqb n k)) [
    | inl e ↦ inl (is_same n k e)
    | inr e ↦ inr (ap (λ b. pick b node (u.node n)) e, ap (λ b. pick b value (u.at n)) e)
  ]

  pub more_nodes : IsTidy u.node → is_gone (u.node k).standing ≡ true → IsMore_nodes u set_named k
  more_nodes tidy fresh = record {
    each = set_there;
    fresh = fresh;
    unused = λ n m l e is. true≢false (sym fresh ∙ ap (λ z. is_gone (u.node z).standing) (sym is) ∙ (tidy.live n m l e).0);
  }

  -- what the frames below see of it
  pub set_respects : (h : Heap) (l : Named) → ((o : ℕ) → value ≡ Some o → is_safe node.standing ≡ false → ComesFrom h u set_named l k o) → Respects h u l → Respects h set_named l
  set_respects h l from_k rs = respects_from h u set_named l from rs
    where
      from : (n o : ℕ) → Owns set_named n o → ComesFrom h u set_named l n o
      from n o w = elim (set_there n) [
        | inl is ↦ subst (λ z. ComesFrom h u set_named l z o) (sym is)
            (from_k o (sym set_here.1 ∙ ap set_named.at (sym is) ∙ w.2) (ap (λ z. is_safe z.standing) (sym set_here.0) ∙ ap (λ z. is_safe (set_named.node z).standing) (sym is) ∙ w.1))
        | inr e ↦ inl (inl (n, (ap (λ z. is_gone z.standing) (sym e.0) ∙ w.0, ap (λ z. is_safe z.standing) (sym e.0) ∙ w.1, sym e.1 ∙ w.2), λ root_is. ap (λ z. z.standing) (sym e.0) ∙ root_is))
      ]

pub inner_no_root : Inner ≡ Root → ⊥
inner_no_root e = cc

pub safe_no_root : Safe ≡ Root → ⊥
safe_no_root e = cc

-- getfield on an object that isn't safe (its place holds `value`)
module _ (IsPlace : ℕ → Label → Type 0) (h : Heap) (u : Named) (ls : List Named) (forest : IsForest h) (fs : Frames IsPlace h (u ∷ ls)) (tidy : IsTidy u.node)
    (k na a place : ℕ) (l : Label) (fresh : is_gone (u.node k).standing ≡ true) (fits : IsPlace place l) where
  abbrev pub inner_child : Node
  inner_child = record { region = (u.node na).region; standing = Inner; head = false; parent = Some (na, l) }

  pub get_keeps : Owns u na a → Frames IsPlace h (set_named u k inner_child (h.to a place) ∷ ls)
  get_keeps owns = (
    child_relates IsPlace h u g k forest fs.0 (more_nodes u k inner_child (h.to a place) tidy fresh) na a place (record {
      above = (owns.0, owns.2);
      region = ap (λ z. z.region) here.0;
      holds = sym here.1;
      head = λ hd. true≢false (sym hd ∙ ap (λ z. z.head) here.0);
      standing = λ is. inner_no_root (sym (ap (λ z. z.standing) here.0) ∙ is);
      parent = λ n lb e. parent n lb (sym (ap (λ z. z.parent) here.0) ∙ e);
    }),
    respects_each h h u g (λ lo rs. set_respects u k inner_child (h.to a place) h lo (λ o at _. inl (inr (na, a, owns, one_step h a place o at))) rs) ls fs.1,
    fs.2,
  )
    where
      g : Named
      g = set_named u k inner_child (h.to a place)

      here : (g.node k ≡ inner_child) × (g.at k ≡ h.to a place)
      here = set_here u k inner_child (h.to a place)

      parent : (n : ℕ) (lb : Label) → (inner_child).parent ≡ Some (n, lb) → (n ≡ na) × IsPlace place lb
      parent n lb e = (sym (ap (λ p. first_or p na) e), subst (λ p. IsPlace place (second_or p l)) e fits)
        where
          first_or : Option (ℕ × Label) → ℕ → ℕ
          first_or None d = d
          first_or (Some q) d = q.0

          second_or : Option (ℕ × Label) → Label → Label
          second_or None d = d
          second_or (Some q) d = q.1

  abbrev pub safe_child : Node
  safe_child = record { region = (u.node na).region; standing = Safe; head = false; parent = None }

  pub get_safe_keeps : Names u na a → Frames IsPlace h (set_named u k safe_child (h.to a place) ∷ ls)
  get_safe_keeps names = (
    child_relates IsPlace h u g k forest fs.0 (more_nodes u k safe_child (h.to a place) tidy fresh) na a place (record {
      above = names;
      region = ap (λ z. z.region) here.0;
      holds = sym here.1;
      head = λ hd. true≢false (sym hd ∙ ap (λ z. z.head) here.0);
      standing = λ is. safe_no_root (sym (ap (λ z. z.standing) here.0) ∙ is);
      parent = λ n lb e. absurd (none_is (g.node k).parent (n, lb) (ap (λ z. z.parent) here.0) e);
    }),
    respects_each h h u g (λ lo rs. set_respects u k safe_child (h.to a place) h lo (λ o at safe. absurd (true≢false safe)) rs) ls fs.1,
    fs.2,
  )
    where
      g : Named
      g = set_named u k safe_child (h.to a place)

      here : (g.node k ≡ safe_child) × (g.at k ≡ h.to a place)
      here = set_here u k safe_child (h.to a place)

      none_is : (p : Option (ℕ × Label)) (q : ℕ × Label) → p ≡ None → p ≡ Some q → ⊥
      none_is p q e w = cc

-- a Root that comes: what a call gave, a new object, a message that was taken
module _ (IsPlace : ℕ → Label → Type 0) (h : Heap) (u : Named) (ls : List Named) (forest : IsForest h) (fs : Frames IsPlace h (u ∷ ls)) (tidy : IsTidy u.node)
    (k new : ℕ) (value : Option ℕ) (fresh : is_gone (u.node k).standing ≡ true) (unused : (n : ℕ) → is_gone (u.node n).standing ≡ false → (u.node n).region ≡ new → ⊥) where
  abbrev pub new_root : Node
  new_root = record { region = new; standing = Root; head = true; parent = None }

  pub root_keeps : ((o : ℕ) → value ≡ Some o → h.has o ≡ true) → ((o p i : ℕ) → value ≡ Some o → h.to p i ≡ Some o → ⊥) →
      ((o n x : ℕ) → value ≡ Some o → Names u n x → Below h o x → ⊥) → AllBelow h value ls → Frames IsPlace h (set_named u k new_root value ∷ ls)
  root_keeps there top apart lower = (
    root_relates IsPlace h u g k forest fs.0 (more_nodes u k new_root value tidy fresh) (record {
      region = λ n live same. unused n live (same ∙ ap (λ z. z.region) here.0);
      parent = λ n l e. none_is (g.node k).parent (n, l) (ap (λ z. z.parent) here.0) e;
      there = λ o e. there o (sym here.1 ∙ e);
      top = λ o p i e. top o p i (sym here.1 ∙ e);
      apart = λ o n x e. apart o n x (sym here.1 ∙ e);
    }),
    respects ls fs.1 lower,
    fs.2,
  )
    where
      g : Named
      g = set_named u k new_root value

      here : (g.node k ≡ new_root) × (g.at k ≡ value)
      here = set_here u k new_root value

      none_is : (p : Option (ℕ × Label)) (q : ℕ × Label) → p ≡ None → p ≡ Some q → ⊥
      none_is p q e w = cc

      respects : (los : List Named) → RespectsAll h u los → AllBelow h value los → RespectsAll h g los
      respects [] rs low = tt
      respects (lo ∷ los) rs low = (set_respects u k new_root value h lo (λ o e _. inr (λ m x w. low.0 o m x e w)) rs.0, respects los rs.1 low.1)

-- a call: the frame of the callee comes on top
pub call_keeps : (IsPlace : ℕ → Label → Type 0) (h : Heap) (u after entry : Named) (of : ℕ → ℕ) (ls : List Named) → IsForest h → Frames IsPlace h (u ∷ ls) →
    IsView IsPlace h u entry of → ((n o : ℕ) → Owns entry n o → is_safe (u.node (of n)).standing ≡ false) → IsLess u after → IsAfter_call h u after entry of →
    Frames IsPlace h (entry ∷ after ∷ ls)
call_keeps IsPlace h u after entry of ls forest fs view owned less c = (
  view_relates IsPlace h u entry of fs.0 view,
  (call_respects IsPlace h u after entry of forest fs.0 view c, respects_each h h u entry (λ l rs. respects_view IsPlace h u entry l of view owned rs) ls fs.1),
  (less_relates IsPlace h u after less fs.0, respects_each h h u after (λ l rs. less_respects IsPlace h u after less l rs) ls fs.1, fs.2),
)

-- a return: what a root of the callee stands for isn't met by the frames below
pub below_root : (IsPlace : ℕ → Label → Type 0) (h : Heap) (u : Named) (nb b : ℕ) → Names u nb b → (u.node nb).standing ≡ Root → (l : Named) → Respects h u l →
    (m x : ℕ) → Names l m x → Below h b x → ⊥
below_root IsPlace h u nb b names root l rs m x w down = elim (here_or_under h b x down) [
  | inl e ↦ rs.root nb b m (names.0, ap is_safe root, names.1) root (subst (λ z. Names l m z) (sym e) w)
  | inr under ↦ rs.strictly nb b m x (names.0, ap is_safe root, names.1) w under
]
