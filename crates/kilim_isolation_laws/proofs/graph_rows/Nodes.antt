-- Lists of nodes, and the canonical form.
use Rattle.std.proofs.Common.{◌≡◌, ℕ, zero, suc, ◌<◌, ◌≤◌, Bool, true, false, true≢false, Option, Some, None, List, [], ◌∷◌, ◌++◌, map, length, eqb, refl, ap, sym, subst, ◌∙◌, ◌⊎◌, inl, inr, arith}
use Rattle.kilim_isolation_laws.specs.forest.Heap.{Heap}
use Rattle.kilim_isolation_laws.specs.forest.Relation.{Root, Gone, is_gone, is_safe, Label, Node, Named, Frames}
use Rattle.kilim_isolation_laws.specs.forest.Steps.{negated, pick, either, IsTidy}
use Rattle.kilim_isolation_laws.specs.forest.Canonical.{absent, node_at, number_at, index_of, member, firsts, parent_in, regions_of, canonical_node, canonical_nodes}
use Rattle.kilim_isolation_laws.proofs.forest.Store.{both_ways, is_same}
use Rattle.kilim_isolation_laws.proofs.forest.View.{IsView, view_relates, respects_view}
use Rattle.kilim_isolation_laws.proofs.forest.Frames.{respects_each}
use Rattle.kilim_isolation_laws.specs.forest.Steps.{IsNearly_tidy}
use Rattle.kilim_isolation_laws.proofs.forest.Canon.{same_index, member_at, firsts_once, in_firsts, member_map}
use Rattle.kilim_isolation_graph.specs.Nodes.{listed, new_region}

-- ---- lists of nodes

pub live_within : (ns : List Node) (n : ℕ) → is_gone (node_at ns n).standing ≡ false → n < length ns
live_within [] n live = absurd (true≢false live)
live_within (x ∷ ns) zero live = omega arith
live_within (x ∷ ns) (suc n) live =
    let w = live_within ns n live in
    omega arith

pub listed_length : (node : ℕ → Node) (count : ℕ) → length (listed node count) ≡ count
listed_length node zero = refl
listed_length node (suc count) = ap suc (listed_length (λ n. node (suc n)) count)

pub listed_at : (node : ℕ → Node) (count n : ℕ) → n < count → node_at (listed node count) n ≡ node n
listed_at node zero n lt = absurd (omega arith)
listed_at node (suc count) zero lt = refl
listed_at node (suc count) (suc n) lt = listed_at (λ k. node (suc k)) count n (omega arith)

pub listed_live : (node : ℕ → Node) (count n : ℕ) → is_gone (node_at (listed node count) n).standing ≡ false → (n < count) × (node_at (listed node count) n ≡ node n)
listed_live node count n live =
    let w = live_within (listed node count) n live in
    let lt = subst (λ k. n < k) (listed_length node count) w in
    (lt, listed_at node count n lt)

-- a new node comes last
pub last_at : (ns : List Node) (node : Node) → node_at (ns ++ node ∷ []) (length ns) ≡ node
last_at [] node = refl
last_at (x ∷ ns) node = last_at ns node

pub other_at : (ns : List Node) (node : Node) (n : ℕ) → (n ≡ length ns → ⊥) → node_at (ns ++ node ∷ []) n ≡ node_at ns n
other_at [] node zero not = absurd (not refl)
other_at [] node (suc n) not = refl
other_at (x ∷ ns) node zero not = refl
other_at (x ∷ ns) node (suc n) not = other_at ns node n (λ e. not (ap suc e))

pub more_length : (ns : List Node) (node : Node) → length (ns ++ node ∷ []) ≡ suc (length ns)
more_length [] node = refl
more_length (x ∷ ns) node = ap suc (more_length ns node)

pub end_absent : (ns : List Node) → is_gone (node_at ns (length ns)).standing ≡ true
end_absent [] = refl
end_absent (x ∷ ns) = end_absent ns

pub below_new : (ns : List Node) (n : ℕ) → n < length ns → (node_at ns n).region < new_region ns
below_new [] n lt = absurd (omega arith)
below_new (x ∷ ns) zero lt = omega arith
below_new (x ∷ ns) (suc n) lt =
    let w = below_new ns n (omega arith) in
    omega arith

pub region_fresh : (ns : List Node) (n : ℕ) → is_gone (node_at ns n).standing ≡ false → (node_at ns n).region ≡ new_region ns → ⊥
region_fresh ns n live e =
    let w = below_new ns n (live_within ns n live) in
    absurd (omega arith)

-- ---- the same live nodes

pub record HasSameLive (u v : Named) : Type 0 where
  pub node : (n : ℕ) → is_gone (v.node n).standing ≡ false → v.node n ≡ u.node n
  pub at : (n : ℕ) → is_gone (v.node n).standing ≡ false → v.at n ≡ u.at n

module _ (IsPlace : ℕ → Label → Type 0) (h : Heap) (u v : Named) (s : HasSameLive u v) where
  lives : (n : ℕ) → is_gone (v.node n).standing ≡ false → is_gone (u.node n).standing ≡ false
  lives n live = ap (λ z. is_gone z.standing) (sym (s.node n live)) ∙ live

  pub same_view : IsView IsPlace h u v (λ n. n)
  same_view = record {
    names = λ n o w. (lives n w.0, sym (s.at n w.0) ∙ w.1);
    joins = λ n m o x wn wm e. ap (λ z. z.region) (s.node n wn.0) ∙ e ∙ ap (λ z. z.region) (sym (s.node m wm.0));
    heads = λ n m x hd ln wm same. inr (ap (λ z. z.head) (sym (s.node n ln)) ∙ hd, lives n ln, ap (λ z. z.region) (sym (s.node n ln)) ∙ same ∙ ap (λ z. z.region) (s.node m wm.0), (λ e. e), s.at n ln);
    edges = λ n m l e ln lm. inl (ap (λ z. z.parent) (sym (s.node m lm)) ∙ e, lives n ln, lives m lm, s.at n ln, s.at m lm);
    roots = λ n o w e. ap (λ z. z.standing) (sym (s.node n w.0)) ∙ e;
  }

  pub same_frames : (ls : List Named) → Frames IsPlace h (u ∷ ls) → Frames IsPlace h (v ∷ ls)
  same_frames ls fs = (
    view_relates IsPlace h u v (λ n. n) fs.0 same_view,
    respects_each h h u v (λ l rs. respects_view IsPlace h u v l (λ n. n) same_view (λ n o w. ap (λ z. is_safe z.standing) (sym (s.node n w.0)) ∙ w.1) rs) ls fs.1,
    fs.2,
  )

pub same_tidy : (f g : ℕ → Node) → ((n : ℕ) → (g n ≡ absent) ⊎ (g n ≡ f n)) → IsNearly_tidy f → IsNearly_tidy g
same_tidy f g each t = record {
  roots = λ n e. elim (each n) [
    | inl is ↦ absurd (gone_root (ap (λ z. z.standing) (sym is) ∙ e))
    | inr is ↦ ap (λ z. z.head) is ∙ t.roots n (ap (λ z. z.standing) (sym is) ∙ e)
  ];
  one_head = λ n m hn hm ln lm same. elim (each n) [
    | inl is ↦ absurd (true≢false (ap (λ z. is_gone z.standing) (sym is) ∙ ln))
    | inr is ↦ elim (each m) [
      | inl is' ↦ absurd (true≢false (ap (λ z. is_gone z.standing) (sym is') ∙ lm))
      | inr too ↦ t.one_head n m (ap (λ z. z.head) (sym is) ∙ hn) (ap (λ z. z.head) (sym too) ∙ hm) (ap (λ z. is_gone z.standing) (sym is) ∙ ln) (ap (λ z. is_gone z.standing) (sym too) ∙ lm)
          (ap (λ z. z.region) (sym is) ∙ same ∙ ap (λ z. z.region) too)
    ]
  ];
  heads_top = λ n p hd e. elim (each n) [
    | inl is ↦ true≢false (sym hd ∙ ap (λ z. z.head) is)
    | inr is ↦ t.heads_top n p (ap (λ z. z.head) (sym is) ∙ hd) (ap (λ z. z.parent) (sym is) ∙ e)
  ];
}
  where
    gone_root : Gone ≡ Root → ⊥
    gone_root e = cc

pub past_absent : (ns : List Node) (n : ℕ) → length ns ≤ n → node_at ns n ≡ absent
past_absent [] n le = refl
past_absent (x ∷ ns) zero le = absurd (omega arith)
past_absent (x ∷ ns) (suc n) le = past_absent ns n (omega arith)

pub within_or_past : (n count : ℕ) → (n < count) ⊎ (count ≤ n)
within_or_past n zero = inr (omega arith)
within_or_past zero (suc count) = inl (omega arith)
within_or_past (suc n) (suc count) = elim (within_or_past n count) [ inl lt ↦ inl (omega arith) | inr le ↦ inr (omega arith) ]

pub listed_each : (node : ℕ → Node) (count n : ℕ) → (node_at (listed node count) n ≡ absent) ⊎ (node_at (listed node count) n ≡ node n)
listed_each node count n = elim (within_or_past n count) [
  | inl lt ↦ inr (listed_at node count n lt)
  | inr le ↦ inl (past_absent (listed node count) n (subst (λ k. k ≤ n) (sym (listed_length node count)) le))
]

-- ---- the canonical form

pub mapped_at : (f : ℕ → Node) (xs : List ℕ) (i : ℕ) → (node_at (map f xs) i ≡ absent) ⊎ ((i < length xs) × (node_at (map f xs) i ≡ f (number_at xs i)))
mapped_at f [] i = inl refl
mapped_at f (x ∷ xs) zero = inr (omega arith, refl)
mapped_at f (x ∷ xs) (suc i) = elim (mapped_at f xs i) [ inl e ↦ inl e | inr w ↦ (let lt = w.0 in inr (omega arith, w.1)) ]

pub index_within : (n : ℕ) (xs : List ℕ) → member n xs ≡ true → index_of n xs < length xs
index_within n [] e = absurd (true≢false (sym e))
index_within n (x ∷ xs) e = elim (both_ways (eqb x n)) [
  | inl it ↦
      let w = ap (λ b. pick b 0 (suc (index_of n xs))) it in
      subst (λ k. k < suc (length xs)) (sym w) (omega arith)
  | inr other ↦
      let w = ap (λ b. pick b 0 (suc (index_of n xs))) other in
      let lt = index_within n xs (ap (λ b. either b (member n xs)) (sym other) ∙ e) in
      subst (λ k. k < suc (length xs)) (sym w) (omega arith)
]

pub mapped_length : (f : ℕ → Node) (xs : List ℕ) → length (map f xs) ≡ length xs
mapped_length f [] = refl
mapped_length f (x ∷ xs) = ap suc (mapped_length f xs)

pub mapped_index : (f : ℕ → Node) (xs : List ℕ) (n : ℕ) → member n xs ≡ true → node_at (map f xs) (index_of n xs) ≡ f n
mapped_index f [] n e = absurd (true≢false (sym e))
mapped_index f (x ∷ xs) n e = elim (both_ways (eqb x n)) [
  | inl it ↦ ap (λ b. node_at (map f (x ∷ xs)) (pick b 0 (suc (index_of n xs)))) it ∙ ap f (is_same x n it)
  | inr other ↦ ap (λ b. node_at (map f (x ∷ xs)) (pick b 0 (suc (index_of n xs)))) other ∙ mapped_index f xs n (ap (λ b. either b (member n xs)) (sym other) ∙ e)
]

-- an edge of the canonical form
pub record IsKept_edge (nodes : List Node) (order : List ℕ) (gone : Bool) (p : Option (ℕ × Label)) (n : ℕ) (l : Label) : Type 0 where
  pub lives : gone ≡ false
  pub from : ℕ
  pub was : p ≡ Some (from, l)
  pub from_lives : is_gone (node_at nodes from).standing ≡ false
  pub is_in : member from order ≡ true
  pub is : n ≡ index_of from order

three : (a b c : Bool) → either a (either b (negated c)) ≡ false → (a ≡ false) × (b ≡ false) × (c ≡ true)
three true b c e = absurd (true≢false e)
three false true c e = absurd (true≢false e)
three false false true e = (refl, refl, refl)
three false false false e = absurd (true≢false e)

abbrev first_or : Option (ℕ × Label) → ℕ → ℕ
first_or None d = d
first_or (Some q) d = q.0

abbrev second_or : Option (ℕ × Label) → Label → Label
second_or None d = d
second_or (Some q) d = q.1

pub kept_edge : (nodes : List Node) (order : List ℕ) (gone : Bool) (p : Option (ℕ × Label)) (n : ℕ) (l : Label) → parent_in nodes order gone p ≡ Some (n, l) → IsKept_edge nodes order gone p n l
kept_edge nodes order gone None n l e = absurd (cc)
kept_edge nodes order gone (Some q) n l e = by (either gone (either (is_gone (node_at nodes q.0).standing) (negated (member q.0 order)))) refl e
  where
    by : (b : Bool) → either gone (either (is_gone (node_at nodes q.0).standing) (negated (member q.0 order))) ≡ b → pick {A = Option (ℕ × Label)} b None (Some (index_of q.0 order, q.1)) ≡ Some (n, l) →
        IsKept_edge nodes order gone (Some q) n l
    by true is w = absurd (cc)
    by false is w =
        let t = three gone (is_gone (node_at nodes q.0).standing) (member q.0 order) is in
        record { lives = t.0; from = q.0; was = ap (λ z. Some (q.0, z)) (ap (λ x. second_or x l) w); from_lives = t.1; is_in = t.2; is = sym (ap (λ x. first_or x n) w) }

module _ (nodes : List Node) (slots : List ℕ) where
  abbrev pub order : List ℕ
  order = firsts [] slots

  abbrev pub canon : ℕ → Node
  canon n = node_at (canonical_nodes nodes slots) n

  pub canonical_each : (n : ℕ) → (canon n ≡ absent) ⊎ ((n < length order) × (canon n ≡ canonical_node nodes order (number_at order n)))
  canonical_each n = mapped_at (λ k. canonical_node nodes order k) order n

  pub canonical_index : (n : ℕ) → member n order ≡ true → canon (index_of n order) ≡ canonical_node nodes order n
  canonical_index n e = mapped_index (λ k. canonical_node nodes order k) order n e

  pub canonical_length : length (canonical_nodes nodes slots) ≡ length order
  canonical_length = mapped_length (λ k. canonical_node nodes order k) order

  edge_of : (n m : ℕ) (l : Label) → (canon m).parent ≡ Some (n, l) →
      (k : ℕ) × (canon m ≡ canonical_node nodes order k) × IsKept_edge nodes order (is_gone (node_at nodes k).standing) (node_at nodes k).parent n l
  edge_of n m l e = elim (canonical_each m) [
    | inl is ↦ absurd (none_some (ap (λ z. z.parent) (sym is) ∙ e))
    | inr w ↦ (number_at order m, w.1, kept_edge nodes order (is_gone (node_at nodes (number_at order m)).standing) (node_at nodes (number_at order m)).parent n l (ap (λ z. z.parent) (sym w.1) ∙ e))
  ]
    where
      none_some : ◌≡◌ {A = Option (ℕ × Label)} None (Some (n, l)) → ⊥
      none_some e = cc

  region_in_order : (n : ℕ) → n < length order → member (node_at nodes (number_at order n)).region (regions_of nodes order) ≡ true
  region_in_order n lt = elim (in_firsts (node_at nodes (number_at order n)).region [] (map (λ k. (node_at nodes k).region) order)
      (member_map (λ k. (node_at nodes k).region) (number_at order n) order (member_at order n lt))) [
        | inl e ↦ absurd (true≢false (sym e))
        | inr e ↦ e
      ]

  pub canonical_tidy : IsNearly_tidy (node_at nodes) → IsTidy canon
  canonical_tidy t = record {
    live = λ n m l e.
        let w = edge_of n m l e in (
          ap (λ k. is_gone (canon k).standing) w.2.is ∙ ap (λ z. is_gone z.standing) (canonical_index w.2.from w.2.is_in) ∙ w.2.from_lives,
          ap (λ z. is_gone z.standing) w.1 ∙ w.2.lives,
        );
    roots = λ n e. elim (canonical_each n) [
      | inl is ↦ absurd (gone_root (ap (λ z. z.standing) (sym is) ∙ e))
      | inr w ↦ ap (λ z. z.head) w.1 ∙ t.roots (number_at order n) (ap (λ z. z.standing) (sym w.1) ∙ e)
    ];
    one_head = λ n m hn hm ln lm same. elim (canonical_each n) [
      | inl is ↦ absurd (true≢false (ap (λ z. is_gone z.standing) (sym is) ∙ ln))
      | inr v ↦ elim (canonical_each m) [
        | inl is ↦ absurd (true≢false (ap (λ z. is_gone z.standing) (sym is) ∙ lm))
        | inr w ↦ firsts_once [] slots n m v.0 w.0 (t.one_head (number_at order n) (number_at order m) (ap (λ z. z.head) (sym v.1) ∙ hn) (ap (λ z. z.head) (sym w.1) ∙ hm)
            (ap (λ z. is_gone z.standing) (sym v.1) ∙ ln) (ap (λ z. is_gone z.standing) (sym w.1) ∙ lm)
            (same_index (node_at nodes (number_at order n)).region (node_at nodes (number_at order m)).region (regions_of nodes order) (region_in_order n v.0) (region_in_order m w.0)
            (ap (λ z. z.region) (sym v.1) ∙ same ∙ ap (λ z. z.region) w.1)))
      ]
    ];
    heads_top = λ n p hd e.
        let w = edge_of p.0 n p.1 e in
        t.heads_top w.0 (w.2.from, p.1) (ap (λ z. z.head) (sym w.1) ∙ hd) w.2.was;
  }
    where
      gone_root : Gone ≡ Root → ⊥
      gone_root e = cc
