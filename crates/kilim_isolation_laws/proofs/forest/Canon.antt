-- The canonical form keeps the relation.
use Rattle.std.proofs.Common.{◌≡◌, ℕ, zero, suc, ◌<◌, Bool, true, false, true≢false, Option, Some, None, List, [], ◌∷◌, map, length, eqb, refl, ap, sym, subst, ◌∙◌, ◌⊎◌, inl, inr, arith}
use Rattle.kilim_isolation_laws.specs.forest.Heap.{Heap}
use Rattle.kilim_isolation_laws.specs.forest.Relation.{Standing, Root, Gone, is_gone, is_safe, Label, Node, Named, Names, IsEdge, Relates}
use Rattle.kilim_isolation_laws.specs.forest.Steps.{negated, pick, either}
use Rattle.kilim_isolation_laws.specs.forest.Canonical.{absent, node_at, number_at, index_of, member, firsts, parent_in, regions_of, canonical_node, canonical_nodes}
use Rattle.kilim_isolation_laws.proofs.forest.Store.{both_ways, either_is, is_same, is_not_same, same_is}
use Rattle.kilim_isolation_laws.proofs.forest.View.{IsView, view_relates}

pub number_of_index : (n : ℕ) (xs : List ℕ) → member n xs ≡ true → number_at xs (index_of n xs) ≡ n
number_of_index n [] e = absurd (true≢false (sym e))
number_of_index n (x ∷ xs) e = elim (both_ways (eqb x n)) [
  | inl it ↦ ap (λ b. number_at (x ∷ xs) (pick b 0 (suc (index_of n xs)))) it ∙ is_same x n it
  | inr other ↦ ap (λ b. number_at (x ∷ xs) (pick b 0 (suc (index_of n xs)))) other ∙ number_of_index n xs (ap (λ b. either b (member n xs)) (sym other) ∙ e)
]

pub same_index : (n m : ℕ) (xs : List ℕ) → member n xs ≡ true → member m xs ≡ true → index_of n xs ≡ index_of m xs → n ≡ m
same_index n m xs en em e = sym (number_of_index n xs en) ∙ ap (λ i. number_at xs i) e ∙ number_of_index m xs em

pub member_tail : (n x : ℕ) (xs : List ℕ) → member n xs ≡ true → member n (x ∷ xs) ≡ true
member_tail n x xs e = go (eqb x n)
  where
    go : (b : Bool) → either b (member n xs) ≡ true
    go true = refl
    go false = e

pub not_seen : (n : ℕ) (seen xs : List ℕ) → member n (firsts seen xs) ≡ true → member n seen ≡ true → ⊥
not_seen n seen [] e s = true≢false (sym e)
not_seen n seen (x ∷ xs) e s = elim (both_ways (member x seen)) [
  | inl it ↦ not_seen n seen xs (ap (λ b. member n (pick b (firsts seen xs) (x ∷ firsts (x ∷ seen) xs))) (sym it) ∙ e) s
  | inr new ↦ elim (either_is (eqb x n) (member n (firsts (x ∷ seen) xs)) (ap (λ b. member n (pick b (firsts seen xs) (x ∷ firsts (x ∷ seen) xs))) (sym new) ∙ e)) [
    | inl same ↦ true≢false (sym s ∙ ap (λ z. member z seen) (sym (is_same x n same)) ∙ new)
    | inr later ↦ not_seen n (x ∷ seen) xs later (member_tail n x seen s)
  ]
]

-- xs is a list in which each number stands once
abbrev pub IsOnce : List ℕ → Type 0
IsOnce xs = (i j : ℕ) → i < length xs → j < length xs → number_at xs i ≡ number_at xs j → i ≡ j

pub member_at : (xs : List ℕ) (i : ℕ) → i < length xs → member (number_at xs i) xs ≡ true
member_at [] i lt = absurd (omega arith)
member_at (x ∷ xs) zero lt = ap (λ b. either b (member x xs)) (same_is x)
member_at (x ∷ xs) (suc i) lt = member_tail (number_at xs i) x xs (member_at xs i (omega arith))

pub once_more : (x : ℕ) (xs : List ℕ) → (member x xs ≡ true → ⊥) → IsOnce xs → IsOnce (x ∷ xs)
once_more x xs new once zero zero li lj e = refl
once_more x xs new once zero (suc j) li lj e = absurd (new (ap (λ z. member z xs) e ∙ member_at xs j (omega arith)))
once_more x xs new once (suc i) zero li lj e = absurd (new (ap (λ z. member z xs) (sym e) ∙ member_at xs i (omega arith)))
once_more x xs new once (suc i) (suc j) li lj e = ap suc (once i j (omega arith) (omega arith) e)

pub pick_once : (b : Bool) (xs ys : List ℕ) → IsOnce xs → IsOnce ys → IsOnce (pick b xs ys)
pick_once true xs ys ox oy = ox
pick_once false xs ys ox oy = oy

pub firsts_once : (seen xs : List ℕ) → IsOnce (firsts seen xs)
firsts_once seen [] = λ i j li lj e. absurd (omega arith)
firsts_once seen (x ∷ xs) = pick_once (member x seen) (firsts seen xs) (x ∷ firsts (x ∷ seen) xs) (firsts_once seen xs)
    (once_more x (firsts (x ∷ seen) xs) (λ m. not_seen x (x ∷ seen) xs m (ap (λ b. either b (member x seen)) (same_is x))) (firsts_once (x ∷ seen) xs))

-- a live node of a mapped list is within the list
pub mapped : (f : ℕ → Node) (xs : List ℕ) (i : ℕ) → is_gone (node_at (map f xs) i).standing ≡ false → (i < length xs) × (node_at (map f xs) i ≡ f (number_at xs i))
mapped f [] i live = absurd (true≢false live)
mapped f (x ∷ xs) zero live = (omega arith, refl)
mapped f (x ∷ xs) (suc i) live =
    let w = mapped f xs i live in
    let lt = w.0 in
    (omega arith, w.1)

-- what is in a list is in its list of firsts
pub in_firsts : (n : ℕ) (seen xs : List ℕ) → member n xs ≡ true → (member n seen ≡ true) ⊎ (member n (firsts seen xs) ≡ true)
in_firsts n seen [] e = absurd (true≢false (sym e))
in_firsts n seen (x ∷ xs) e = elim (both_ways (member x seen)) [
  | inl old ↦ elim (either_is (eqb x n) (member n xs) e) [
    | inl same ↦ inl (ap (λ z. member z seen) (sym (is_same x n same)) ∙ old)
    | inr later ↦ elim (in_firsts n seen xs later) [ inl s ↦ inl s | inr w ↦ inr (ap (λ b. member n (pick b (firsts seen xs) (x ∷ firsts (x ∷ seen) xs))) old ∙ w) ]
  ]
  | inr new ↦ elim (either_is (eqb x n) (member n xs) e) [
    | inl same ↦ inr (ap (λ b. member n (pick b (firsts seen xs) (x ∷ firsts (x ∷ seen) xs))) new ∙ ap (λ b. either b (member n (firsts (x ∷ seen) xs))) same)
    | inr later ↦ elim (in_firsts n (x ∷ seen) xs later) [
      | inl s ↦ elim (either_is (eqb x n) (member n seen) s) [
        | inl same ↦ inr (ap (λ b. member n (pick b (firsts seen xs) (x ∷ firsts (x ∷ seen) xs))) new ∙ ap (λ b. either b (member n (firsts (x ∷ seen) xs))) same)
        | inr old ↦ inl old
      ]
      | inr w ↦ inr (ap (λ b. member n (pick b (firsts seen xs) (x ∷ firsts (x ∷ seen) xs))) new ∙ member_tail n x (firsts (x ∷ seen) xs) w)
    ]
  ]
]

pub member_map : (f : ℕ → ℕ) (n : ℕ) (xs : List ℕ) → member n xs ≡ true → member (f n) (map f xs) ≡ true
member_map f n [] e = absurd (true≢false (sym e))
member_map f n (x ∷ xs) e = elim (either_is (eqb x n) (member n xs) e) [
  | inl same ↦ ap (λ b. either b (member (f n) (map f xs))) (ap (λ z. eqb (f z) (f n)) (is_same x n same) ∙ same_is (f n))
  | inr later ↦ member_tail (f n) (f x) (map f xs) (member_map f n xs later)
]

pub member_is : (a b c : Bool) → either a (either b (negated c)) ≡ false → c ≡ true
member_is a b true e = refl
member_is true b false e = absurd (true≢false e)
member_is false true false e = absurd (true≢false e)
member_is false false false e = absurd (true≢false e)

abbrev pub renamed : List ℕ → Option (ℕ × Label) → Option (ℕ × Label)
renamed order None = None
renamed order (Some q) = Some (number_at order q.0, q.1)

pub unmapped : (nodes : List Node) (order : List ℕ) (q : ℕ × Label) (n : ℕ) (l : Label) (b : Bool) →
    either false b ≡ b → pick {A = Option (ℕ × Label)} b None (Some (index_of q.0 order, q.1)) ≡ Some (n, l) → (b ≡ false → member q.0 order ≡ true) → Some q ≡ Some (number_at order n, l)
unmapped nodes order q n l true is e mem = absurd (cc)
unmapped nodes order q n l false is e mem = ap (λ z. Some (z, q.1)) (sym (number_of_index q.0 order (mem refl))) ∙ ap (λ p. renamed order p) e

module _ (IsPlace : ℕ → Label → Type 0) (h : Heap) (nodes : List Node) (at : ℕ → Option ℕ) (slots : List ℕ) where
  pub order : List ℕ
  order = firsts [] slots

  abbrev pub old : Named
  old = record { node = node_at nodes; at = at }

  abbrev pub canonical_named : Named
  canonical_named = record { node = node_at (canonical_nodes nodes slots); at = λ n. at (number_at (firsts [] slots) n) }

  pub is_node : (n : ℕ) → is_gone (canonical_named.node n).standing ≡ false → (n < length (firsts [] slots)) × (canonical_named.node n ≡ canonical_node nodes (firsts [] slots) (number_at (firsts [] slots) n))
  is_node n live = mapped (λ k. canonical_node nodes (firsts [] slots) k) (firsts [] slots) n live

  pub live_of : (n : ℕ) → is_gone (canonical_named.node n).standing ≡ false → is_gone (old.node (number_at (firsts [] slots) n)).standing ≡ false
  live_of n live = ap (λ z. is_gone z.standing) (sym (is_node n live).1) ∙ live

  pub region_is : (n : ℕ) → is_gone (canonical_named.node n).standing ≡ false →
      (canonical_named.node n).region ≡ index_of (old.node (number_at (firsts [] slots) n)).region (regions_of nodes (firsts [] slots))
  region_is n live = ap (λ z. z.region) (is_node n live).1

  pub region_in : (n : ℕ) → is_gone (canonical_named.node n).standing ≡ false → member (old.node (number_at (firsts [] slots) n)).region (regions_of nodes (firsts [] slots)) ≡ true
  region_in n live = elim (in_firsts (old.node (number_at (firsts [] slots) n)).region [] (map (λ k. (node_at nodes k).region) (firsts [] slots))
      (member_map (λ k. (node_at nodes k).region) (number_at (firsts [] slots) n) (firsts [] slots) (member_at (firsts [] slots) n (is_node n live).0))) [
        | inl e ↦ absurd (true≢false (sym e))
        | inr e ↦ e
      ]

  pub parent_was : (n m : ℕ) (l : Label) (gone : Bool) (p : Option (ℕ × Label)) → n < length (firsts [] slots) → parent_in nodes (firsts [] slots) gone p ≡ Some (n, l) →
      p ≡ Some (number_at (firsts [] slots) n, l)
  parent_was n m l gone None lt e = absurd (cc)
  parent_was n m l gone (Some q) lt e = unmapped nodes (firsts [] slots) q n l (either gone (either (is_gone (node_at nodes q.0).standing) (negated (member q.0 (firsts [] slots))))) refl e
      (λ is. member_is gone (is_gone (node_at nodes q.0).standing) (member q.0 (firsts [] slots)) is)

  pub canonical_view : IsView IsPlace h old canonical_named (λ n. number_at (firsts [] slots) n)
  canonical_view = record {
    names = λ n o w. (live_of n w.0, w.1);
    joins = λ n m o x wn wm e. region_is n wn.0 ∙ ap (λ r. index_of r (regions_of nodes (firsts [] slots))) e ∙ sym (region_is m wm.0);
    heads = λ n m x hd ln wm same. inr (
      ap (λ z. z.head) (sym (is_node n ln).1) ∙ hd,
      live_of n ln,
      same_index (old.node (number_at (firsts [] slots) n)).region (old.node (number_at (firsts [] slots) m)).region (regions_of nodes (firsts [] slots)) (region_in n ln) (region_in m wm.0)
          (sym (region_is n ln) ∙ same ∙ region_is m wm.0),
      (λ e. firsts_once [] slots n m (is_node n ln).0 (is_node m wm.0).0 e),
      refl,
    );
    edges = λ n m l e ln lm. inl (
      parent_was n m l (is_gone (old.node (number_at (firsts [] slots) m)).standing) (old.node (number_at (firsts [] slots) m)).parent (is_node n ln).0
          (ap (λ z. z.parent) (sym (is_node m lm).1) ∙ e),
      live_of n ln,
      live_of m lm,
      refl,
      refl,
    );
    roots = λ n o w is. ap (λ z. z.standing) (sym (is_node n w.0).1) ∙ is;
  }

  pub canonical_relates : Relates IsPlace h old → Relates IsPlace h canonical_named
  canonical_relates r = view_relates IsPlace h old canonical_named (λ n. number_at (firsts [] slots) n) r canonical_view
