-- The store keeps the relation of all frames.
use Rattle.std.proofs.Common.{◌≡◌, ℕ, zero, suc, Bool, true, false, true≢false, Option, Some, None, List, [], ◌∷◌, eqb, refl, ap, sym, subst, ◌∙◌, ◌⊎◌, inl, inr, arith}
use Rattle.std.proofs.lemmas.Bool.Decides.{nat_tests}
use Rattle.kilim_isolation_laws.specs.forest.Heap.{Heap, Below, Here, Then, IsUnder, IsForest, IsSet_at}
use Rattle.kilim_isolation_laws.specs.forest.Relation.{Standing, Root, Inner, Gone, is_gone, is_safe, Label, Node, Named, Names, IsEdge, Relates, Owns, Respects, RespectsAll, Frames}
use Rattle.kilim_isolation_laws.specs.forest.Steps.{negated, pick, either, rises, climbs, is_part, is_that, is_left, no_parent, cut_node, join_node, IsTidy}
use Rattle.kilim_isolation_laws.proofs.forest.Paths.{some_is, none_is_not, joined, below_of, one_step, here_or_under, under_below, below_under, comparable, never_round, above_top}
use Rattle.kilim_isolation_laws.proofs.forest.Cut.{IsPart, IsRest, IsCut_graph, cut_relates}
use Rattle.kilim_isolation_laws.proofs.forest.Join.{IsJoined, IsOther, IsJoined_graph, join_relates}

pub both_ways : (b : Bool) → (b ≡ true) ⊎ (b ≡ false)
both_ways true = inl refl
both_ways false = inr refl

pub either_is : (a b : Bool) → either a b ≡ true → (a ≡ true) ⊎ (b ≡ true)
either_is true b e = inl refl
either_is false b e = inr e

pub is_same : (n m : ℕ) → eqb n m ≡ true → n ≡ m
is_same n m e = grind (arith, nat_tests)

pub same_is : (n : ℕ) → eqb n n ≡ true
same_is n = grind (arith, nat_tests)

pub either_left : (a b : Bool) → a ≡ true → either a b ≡ true
either_left true b e = refl
either_left false b e = absurd (true≢false (sym e))

pub is_not_same : (n m : ℕ) → eqb n m ≡ false → n ≡ m → ⊥
is_not_same n m e s = grind (arith, nat_tests)

-- known parents lead from n up to k
pub data Climbs (g : ℕ → Node) (k : ℕ) : ℕ → Type 0 where
  Stop : {n : ℕ} → n ≡ k → Climbs g k n
  Rise : {n : ℕ} (m : ℕ) (l : Label) → (g n).parent ≡ Some (m, l) → Climbs g k m → Climbs g k n

pub climb_step : (g : ℕ → Node) (n k : ℕ) (go : ℕ → Bool) → ((m : ℕ) → go m ≡ true → Climbs g k m) → (p : Option (ℕ × Label)) → (g n).parent ≡ p → rises p go ≡ true → Climbs g k n
climb_step g n k go up None is e = absurd (true≢false (sym e))
climb_step g n k go up (Some q) is e = Rise q.0 q.1 is (up q.0 e)

pub climbs_is : (g : ℕ → Node) (fuel n k : ℕ) → climbs g fuel n k ≡ true → Climbs g k n
climbs_is g zero n k e = Stop (is_same n k e)
climbs_is g (suc fuel) n k e = elim (either_is (eqb n k) (rises (g n).parent (λ m. climbs g fuel m k)) e) [
  | inl same ↦ Stop (is_same n k same)
  | inr up ↦ climb_step g n k (λ m. climbs g fuel m k) (λ m. climbs_is g fuel m k) (g n).parent refl up
]

abbrev pub parent_or : Option (ℕ × Label) → ℕ → ℕ
parent_or None d = d
parent_or (Some q) d = q.0

pub no_parent_is : (a : ℕ) (p : Option (ℕ × Label)) (n : ℕ) (l : Label) → no_parent a p ≡ Some (n, l) → (p ≡ Some (n, l)) × (n ≡ a → ⊥)
no_parent_is a None n l e = absurd (cc)
no_parent_is a (Some q) n l e = by (eqb q.0 a) refl e
  where
    by : (b : Bool) → eqb q.0 a ≡ b → pick b None (Some q) ≡ Some (n, l) → (Some q ≡ Some (n, l)) × (n ≡ a → ⊥)
    by true is w = absurd (cc)
    by false is w = (w, λ s. is_not_same q.0 a is (ap (λ p. parent_or p n) w ∙ s))

module _ (IsPlace : ℕ → Label → Type 0) (h : Heap) (u : Named) (forest : IsForest h) (r : Relates IsPlace h u) (tidy : IsTidy u.node) where
  -- a node known below k stands for an object below that of k, or is k
  pub climb_under : (k n o : ℕ) → Climbs u.node k n → Names u n o → (n ≡ k) ⊎ ((y : ℕ) × Names u k y × IsUnder h y o)
  climb_under k n o (Stop e) w = inl e
  climb_under k n o (Rise {n = z} m l e c) w =
      let live = tidy.live m z l e in
      let k_edge = r.edged m z l e live.0 live.1 in
      let edge = one_step h k_edge.0 k_edge.2.place o (k_edge.2.holds ∙ w.1) in
      elim (climb_under k m k_edge.0 c (live.0, k_edge.1)) [
        | inl is ↦ inr (k_edge.0, subst (λ q. Names u q k_edge.0) is (live.0, k_edge.1), edge)
        | inr v ↦ inr (v.0, v.1, below_under h v.0 k_edge.0 o (below_of h v.0 k_edge.0 v.2) edge)
      ]

abbrev pub has_some : Option ℕ → Bool
has_some None = false
has_some (Some n) = true

abbrev pub some_or : Option ℕ → ℕ
some_or None = 0
some_or (Some n) = n

pub climbs_self : (g : ℕ → Node) (fuel n : ℕ) (b : Bool) → either (climbs g fuel n n) b ≡ true
climbs_self g zero n b = either_left (eqb n n) b (same_is n)
climbs_self g (suc fuel) n b = either_left (either (eqb n n) (rises (g n).parent (λ m. climbs g fuel m n))) b (either_left (eqb n n) (rises (g n).parent (λ m. climbs g fuel m n)) (same_is n))

pub left_elsewhere : (x y : Bool) (p q : ℕ) → (p ≡ q → ⊥) → either x (either y (negated (eqb p q))) ≡ true
left_elsewhere true y p q not = refl
left_elsewhere false true p q not = refl
left_elsewhere false false p q not = go (eqb p q) refl
  where
    go : (b : Bool) → eqb p q ≡ b → negated b ≡ true
    go true e = absurd (not (is_same p q e))
    go false e = refl

-- the change below a, where what the known child c stands for is cut off
module _ (IsPlace : ℕ → Label → Type 0) (h h1 : Heap) (u : Named) (forest : IsForest h) (r : Relates IsPlace h u) (tidy : IsTidy u.node)
    (na a f fuel new : ℕ) (l : Label) (c : Option ℕ)
    (names_a : Names u na a)
    (fresh : (n : ℕ) → is_gone (u.node n).standing ≡ false → (u.node n).region ≡ new → ⊥)
    (child : (root : ℕ) → c ≡ Some root → ((u.node root).parent ≡ Some (na, l)) × ((place : ℕ) → IsPlace place l → place ≡ f))
    (s : IsSet_at h h1 a f None) where
  abbrev pub cut_named : Named
  cut_named = record { node = λ n. cut_node u.node fuel na c new n; at = u.at }

  -- what is left in a's region and is at or below a is a itself
  pub only_a : (n o : ℕ) → is_left u.node fuel na n ≡ true → Names u n o → Below h a o → n ≡ na
  only_a n o e w down = elim (either_is (climbs u.node fuel na n) (either (u.node n).head (negated (eqb (u.node n).region (u.node na).region))) e) [
    | inl up ↦ elim (climb_under IsPlace h u forest r tidy n na a (climbs_is u.node fuel na n up) names_a) [
      | inl is ↦ sym is
      | inr v ↦ absurd (never_round h forest a (below_under h a o a down (subst (λ z. IsUnder h z a) (some_is v.0 o (sym v.1.1 ∙ w.1)) v.2)))
    ]
    | inr rest ↦ elim (either_is (u.node n).head (negated (eqb (u.node n).region (u.node na).region)) rest) [
      | inl hd ↦ elim (r.headed n na a hd w.0 names_a same) [
        | inl is ↦ is
        | inr v ↦ absurd (never_round h forest a (below_under h a o a down (subst (λ z. IsUnder h z a) (some_is v.0 o (sym v.1 ∙ w.1)) v.2)))
      ]
      | inr other ↦ absurd (elsewhere (eqb (u.node n).region (u.node na).region) refl other)
    ]
  ]
    where
      same : (u.node n).region ≡ (u.node na).region
      same = sym (r.apart na n a o names_a w down)

      elsewhere : (b : Bool) → eqb (u.node n).region (u.node na).region ≡ b → negated b ≡ true → ⊥
      elsewhere true is w = absurd (true≢false (sym w))
      elsewhere false is w = is_not_same (u.node n).region (u.node na).region is same

  pub part_node : (n : ℕ) → is_part u.node fuel c n ≡ true →
      cut_named.node n ≡ record { region = new; standing = pick (is_that c n) Root (u.node n).standing; head = is_that c n; parent = no_parent na (u.node n).parent }
  part_node n e = ap (λ b. pick b
      (record { region = new; standing = pick (is_that c n) Root (u.node n).standing; head = is_that c n; parent = no_parent na (u.node n).parent })
      (record { region = (u.node n).region; standing = pick (is_left u.node fuel na n) (u.node n).standing Gone; head = (u.node n).head; parent = no_parent na (u.node n).parent })) e

  pub rest_node : (n : ℕ) → is_part u.node fuel c n ≡ false →
      cut_named.node n ≡ record { region = (u.node n).region; standing = pick (is_left u.node fuel na n) (u.node n).standing Gone; head = (u.node n).head; parent = no_parent na (u.node n).parent }
  rest_node n e = ap (λ b. pick b
      (record { region = new; standing = pick (is_that c n) Root (u.node n).standing; head = is_that c n; parent = no_parent na (u.node n).parent })
      (record { region = (u.node n).region; standing = pick (is_left u.node fuel na n) (u.node n).standing Gone; head = (u.node n).head; parent = no_parent na (u.node n).parent })) e

  -- the standing in the part is the old one, or n is its root
  pub part_standing : (n : ℕ) → is_part u.node fuel c n ≡ true → ((cut_named.node n).standing ≡ (u.node n).standing) ⊎ ((cut_named.node n).standing ≡ Root) × (is_that c n ≡ true)
  part_standing n e = elim (both_ways (is_that c n)) [
    | inl it ↦ inr (ap (λ z. z.standing) (part_node n e) ∙ ap (λ b. pick b Root (u.node n).standing) it, it)
    | inr other ↦ inl (ap (λ z. z.standing) (part_node n e) ∙ ap (λ b. pick b Root (u.node n).standing) other)
  ]

  pub root_of : (n : ℕ) (d : Option ℕ) → is_part u.node fuel d n ≡ true → (root : ℕ) × (d ≡ Some root) × Climbs u.node root n × (is_that d n ≡ eqb n root)
  root_of n None e = absurd (true≢false (sym e))
  root_of n (Some root) e = (root, refl, climbs_is u.node fuel n root e, refl)

  pub root_is : (n root : ℕ) → c ≡ Some root → is_that c n ≡ true → n ≡ root
  root_is n root is e = is_same n root (ap (λ d. is_that d n) (sym is) ∙ e)

  pub root_live : (root : ℕ) → c ≡ Some root → is_gone (u.node root).standing ≡ false
  root_live root is = (tidy.live na root l (child root is).0).1

  pub root_at : (root : ℕ) → c ≡ Some root → u.at root ≡ h.to a f
  root_at root is =
      let k = r.edged na root l (child root is).0 names_a.0 (root_live root is) in
      sym k.2.holds ∙ ap (λ o. h.to o k.2.place) (some_is k.0 a (sym k.1 ∙ names_a.1)) ∙ ap (λ i. h.to a i) ((child root is).1 k.2.place k.2.fits)

  pub part_live : (n : ℕ) → is_part u.node fuel c n ≡ true → is_gone (cut_named.node n).standing ≡ false → is_gone (u.node n).standing ≡ false
  part_live n e live = elim (part_standing n e) [
    | inl same ↦ ap is_gone (sym same) ∙ live
    | inr new_root ↦
        let q = root_of n c e in
        ap (λ z. is_gone (u.node z).standing) (root_is n q.0 q.1 new_root.1) ∙ root_live q.0 q.1
  ]

  pub part_below : (n : ℕ) → is_gone (u.node n).standing ≡ false → (root : ℕ) → c ≡ Some root → Climbs u.node root n →
      (n ≡ root) ⊎ ((o : ℕ) → u.at n ≡ Some o → (d : ℕ) × (h.to a f ≡ Some d) × IsUnder h d o)
  part_below n live root is (Stop e) = inl e
  part_below n live root is (Rise {n = z} m lb e up) = inr (λ o at. elim (climb_under IsPlace h u forest r tidy root m (above o at).0 up (above o at).1) [
    | inl top ↦ ((above o at).0, sym (root_at root is) ∙ ap u.at (sym top) ∙ (above o at).1.1, (above o at).2)
    | inr v ↦ (v.0, sym (root_at root is) ∙ v.1.1, under_below h v.0 (above o at).0 o v.2 (below_of h (above o at).0 o (above o at).2))
  ])
    where
      above : (o : ℕ) → u.at z ≡ Some o → (y : ℕ) × Names u m y × IsUnder h y o
      above o at =
          let k = r.edged m z lb e (tidy.live m z lb e).0 live in
          (k.0, ((tidy.live m z lb e).0, k.1), one_step h k.0 k.2.place o (k.2.holds ∙ at))

  pub is_a_part : (n : ℕ) → is_gone (cut_named.node n).standing ≡ false → is_part u.node fuel c n ≡ true → (root : ℕ) → c ≡ Some root → IsPart h u cut_named a f true new root n
  is_a_part n live e root is = record {
    some_part = refl;
    region = ap (λ z. z.region) (part_node n e);
    cut = root_at root is;
    head = λ hd. root_is n root is (ap (λ z. z.head) (sym (part_node n e)) ∙ hd);
    standing = λ o at now. elim (part_standing n e) [
      | inl same ↦ elim below [
        | inl top ↦ top
        | inr under ↦
            let v = under o at in
            absurd (r.whole n o v.2.0 v.2.1 (was_live, at) (sym same ∙ now) v.2.3)
      ]
      | inr new_root ↦ root_is n root is new_root.1
    ];
    below = below;
  }
    where
      was_live : is_gone (u.node n).standing ≡ false
      was_live = part_live n e live

      below : (n ≡ root) ⊎ ((o : ℕ) → u.at n ≡ Some o → (d : ℕ) × (h.to a f ≡ Some d) × IsUnder h d o)
      below = part_below n was_live root is (climbs_is u.node fuel n root (ap (λ d. is_part u.node fuel d n) (sym is) ∙ e))

  pub left_or : (n : ℕ) (b : Bool) → is_left u.node fuel na n ≡ b → is_gone (pick b (u.node n).standing Gone) ≡ false → is_left u.node fuel na n ≡ true
  left_or n true is w = is
  left_or n false is w = absurd (true≢false w)

  pub rest_left : (n : ℕ) → is_gone (cut_named.node n).standing ≡ false → is_part u.node fuel c n ≡ false → is_left u.node fuel na n ≡ true
  rest_left n live e = left_or n (is_left u.node fuel na n) refl (ap (λ z. is_gone z.standing) (sym (rest_node n e)) ∙ live)

  pub rest_standing : (n : ℕ) → is_gone (cut_named.node n).standing ≡ false → is_part u.node fuel c n ≡ false → (cut_named.node n).standing ≡ (u.node n).standing
  rest_standing n live e = ap (λ z. z.standing) (rest_node n e) ∙ ap (λ b. pick b (u.node n).standing Gone) (rest_left n live e)

  pub rest_live : (n : ℕ) → is_gone (cut_named.node n).standing ≡ false → is_part u.node fuel c n ≡ false → is_gone (u.node n).standing ≡ false
  rest_live n live e = ap is_gone (sym (rest_standing n live e)) ∙ live

  pub is_a_rest : (some : Bool) (n : ℕ) → is_gone (cut_named.node n).standing ≡ false → is_part u.node fuel c n ≡ false → IsRest h u cut_named a some new n
  is_a_rest some n live e = record {
    region = ap (λ z. z.region) (rest_node n e);
    other = λ _. fresh n (rest_live n live e);
    head = λ hd. ap (λ z. z.head) (sym (rest_node n e)) ∙ hd;
    standing = λ is. sym (rest_standing n live e) ∙ is;
    safe = λ is. ap is_safe (sym (rest_standing n live e)) ∙ is;
    outside = λ o at under.
        let is = only_a n o (rest_left n live e) (rest_live n live e, at) (below_of h a o under) in
        never_round h forest a (subst (λ z. IsUnder h a z) (some_is o a (sym at ∙ ap u.at is ∙ names_a.1)) under);
  }

  -- every node of the cut graph was there, in the part under a or left
  pub was_there : (n : ℕ) → is_gone (cut_named.node n).standing ≡ false → is_gone (u.node n).standing ≡ false
  was_there n live = elim (both_ways (is_part u.node fuel c n)) [ inl e ↦ part_live n e live | inr e ↦ rest_live n live e ]

  -- no edge goes out of what stands for a
  pub no_edge_out : (n m : ℕ) (lb : Label) → (cut_named.node m).parent ≡ Some (n, lb) → is_gone (cut_named.node n).standing ≡ false → ((u.node m).parent ≡ Some (n, lb)) × (u.at n ≡ Some a → ⊥)
  no_edge_out n m lb e ln = (
    old.0,
    λ at. elim (both_ways (is_part u.node fuel c n)) [
      | inl part ↦
          let q = root_of n c part in
          elim (part_below n (part_live n part ln) q.0 q.1 q.2) [
            | inl top ↦ never_round h forest a (one_step h a f a (sym (root_at q.0 q.1) ∙ ap u.at (sym top) ∙ at))
            | inr under ↦
                let v = under a at in
                never_round h forest a (under_below h a v.0 a (one_step h a f v.0 v.1) (below_of h v.0 a v.2))
          ]
      | inr rest ↦ old.1 (only_a n a (rest_left n ln rest) (rest_live n ln rest, at) (Here refl))
    ],
  )
    where
      parent_is : (cut_named.node m).parent ≡ no_parent na (u.node m).parent
      parent_is = elim (both_ways (is_part u.node fuel c m)) [ inl x ↦ ap (λ z. z.parent) (part_node m x) | inr x ↦ ap (λ z. z.parent) (rest_node m x) ]

      old : ((u.node m).parent ≡ Some (n, lb)) × (n ≡ na → ⊥)
      old = no_parent_is na (u.node m).parent n lb (sym parent_is ∙ e)

  pub cut_graph : (d : Option ℕ) → c ≡ d → IsCut_graph h u cut_named a f (has_some d) new (some_or d)
  cut_graph d is = record {
    at = λ n. refl;
    lives = was_there;
    kinds = λ n ln. kinds n ln d is;
    edges = λ n m lb e ln lm. no_edge_out n m lb e ln;
  }
    where
      kinds : (n : ℕ) → is_gone (cut_named.node n).standing ≡ false → (d : Option ℕ) → c ≡ d → IsPart h u cut_named a f (has_some d) new (some_or d) n ⊎ IsRest h u cut_named a (has_some d) new n
      kinds n ln None is = inr (is_a_rest false n ln (ap (λ x. is_part u.node fuel x n) is))
      kinds n ln (Some root) is = elim (both_ways (is_part u.node fuel c n)) [
        | inl e ↦ inl (is_a_part n ln e root is)
        | inr e ↦ inr (is_a_rest true n ln e)
      ]

  pub part_not_a : (n : ℕ) → is_gone (u.node n).standing ≡ false → is_part u.node fuel c n ≡ true → u.at n ≡ Some a → ⊥
  part_not_a n live part at =
      let q = root_of n c part in
      elim (part_below n live q.0 q.1 q.2) [
        | inl top ↦ never_round h forest a (one_step h a f a (sym (root_at q.0 q.1) ∙ ap u.at (sym top) ∙ at))
        | inr under ↦
            let v = under a at in
            never_round h forest a (under_below h a v.0 a (one_step h a f v.0 v.1) (below_of h v.0 a v.2))
      ]

  -- what is left and no part is as before
  pub as_before : (n o : ℕ) → (is_part u.node fuel c n ≡ true → ⊥) → is_left u.node fuel na n ≡ true → Names u n o →
      Names cut_named n o × ((cut_named.node n).standing ≡ (u.node n).standing) × ((cut_named.node n).region ≡ (u.node n).region) × ((cut_named.node n).head ≡ (u.node n).head)
  as_before n o not left w =
      let e = elim (both_ways (is_part u.node fuel c n)) as (λ _. is_part u.node fuel c n ≡ false) [ inl it ↦ absurd (not it) | inr e ↦ e ] in
      let standing = ap (λ z. z.standing) (rest_node n e) ∙ ap (λ b. pick b (u.node n).standing Gone) left in
      ((ap is_gone standing ∙ w.0, w.1), standing, ap (λ z. z.region) (rest_node n e), ap (λ z. z.head) (rest_node n e))

  pub a_before : Names cut_named na a × ((cut_named.node na).standing ≡ (u.node na).standing) × ((cut_named.node na).region ≡ (u.node na).region) × ((cut_named.node na).head ≡ (u.node na).head)
  a_before = as_before na a (λ part. part_not_a na names_a.0 part names_a.1) (climbs_self u.node fuel na (either (u.node na).head (negated (eqb (u.node na).region (u.node na).region)))) names_a

  pub root_before : (n o : ℕ) → Names u n o → (u.node n).standing ≡ Root → ((u.node n).region ≡ (u.node na).region → ⊥) →
      Names cut_named n o × ((cut_named.node n).standing ≡ (u.node n).standing) × ((cut_named.node n).region ≡ (u.node n).region) × ((cut_named.node n).head ≡ (u.node n).head)
  root_before n o w is_root apart = as_before n o not_part left w
    where
      not_part : is_part u.node fuel c n ≡ true → ⊥
      not_part part =
          let q = root_of n c part in
          elim (part_below n w.0 q.0 q.1 q.2) [
            | inl top ↦ r.whole n o a f w is_root (sym (root_at q.0 q.1) ∙ ap u.at (sym top) ∙ w.1)
            | inr under ↦
                let v = under o w.1 in
                r.whole n o v.2.0 v.2.1 w is_root v.2.3
          ]

      left : is_left u.node fuel na n ≡ true
      left = left_elsewhere (climbs u.node fuel na n) (u.node n).head (u.node n).region (u.node na).region apart

  pub store_cut : Relates IsPlace h1 cut_named
  store_cut = cut_relates IsPlace h h1 u cut_named a f (has_some c) new (some_or c) forest s r (cut_graph c refl)
