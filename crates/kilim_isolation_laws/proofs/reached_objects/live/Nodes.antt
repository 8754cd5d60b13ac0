-- Lists of nodes, and what the canonical form keeps.
use Rattle.std.proofs.Common.{◌≡◌, ◌⊎◌, inl, inr, ℕ, zero, suc, ◌<◌, Bool, true, false, true≢false, Option, Some, None, List, [], ◌∷◌, ◌++◌, map, length, reverse, eqb, refl, ap, sym, subst, ◌∙◌, arith}
use Rattle.kilim_program.specs.declared.verified.VType.{VType}
use Rattle.kilim_program.specs.declared.verified.VType.TheVariants.{Top, Int, Long, Null, UninitThis, Uninit, Object}
use Rattle.kilim_type_spec.specs.Step.{Types, is_top, peek}
use Rattle.kilim_isolation_graph.specs.declared.graph.Graph.{Graph}
use Rattle.kilim_isolation_graph.specs.declared.node.Label.{Label}
use Rattle.kilim_isolation_graph.specs.declared.node.Node.{Node}
use Rattle.kilim_isolation_graph.specs.Canonical.{canonical, canonical_at, canonical_node, cleared, index_of, is_among, kept_name, kept_names, named, order_of, parent_in, renumbered, slots_of}
use Rattle.kilim_isolation_graph.specs.Graphs.{node_of, slot}
use Rattle.kilim_isolation_graph.specs.Nodes.{absent, is_gone, listed, node_at}
use Rattle.kilim_isolation_laws.specs.forest.Canonical.{number_at}
use Rattle.kilim_isolation_laws.specs.forest.Steps.{either, pick}
use Rattle.kilim_isolation_laws.proofs.forest.Canon.{in_firsts, member_tail}
use Rattle.kilim_isolation_laws.proofs.forest.Store.{both_ways, is_same, same_is}

-- ---- lists of nodes

pub listed_length : (node : ℕ → Node) (count : ℕ) → length (listed node count) ≡ count
listed_length node zero = refl
listed_length node (suc count) = ap suc (listed_length (λ n. node (suc n)) count)

pub listed_at : (node : ℕ → Node) (count n : ℕ) → n < count → node_at (listed node count) n ≡ node n
listed_at node zero n lt = absurd (omega arith)
listed_at node (suc count) zero lt = refl
listed_at node (suc count) (suc n) lt = listed_at (λ k. node (suc k)) count n (omega arith)

pub more_length : (ns : List Node) (node : Node) → length (ns ++ node ∷ []) ≡ suc (length ns)
more_length [] node = refl
more_length (x ∷ ns) node = ap suc (more_length ns node)

pub old_at : (ns : List Node) (node : Node) (n : ℕ) → n < length ns → node_at (ns ++ node ∷ []) n ≡ node_at ns n
old_at [] node n lt = absurd (omega arith)
old_at (x ∷ ns) node zero lt = refl
old_at (x ∷ ns) node (suc n) lt = old_at ns node n (omega arith)

mapped_at : (f : ℕ → Node) (xs : List ℕ) (i : ℕ) → (node_at (map f xs) i ≡ absent) ⊎ (node_at (map f xs) i ≡ f (number_at xs i))
mapped_at f [] i = inl refl
mapped_at f (x ∷ xs) zero = inr refl
mapped_at f (x ∷ xs) (suc i) = mapped_at f xs i

mapped_length : (f : ℕ → Node) (xs : List ℕ) → length (map f xs) ≡ length xs
mapped_length f [] = refl
mapped_length f (x ∷ xs) = ap suc (mapped_length f xs)

index_within : (n : ℕ) (xs : List ℕ) → is_among n xs ≡ true → index_of n xs < length xs
index_within n [] e = absurd (true≢false (sym e))
index_within n (x ∷ xs) e = elim (both_ways (eqb x n)) [
  | inl it ↦
      let w = ap (λ b. pick b 0 (suc (index_of n xs))) it in
      subst (λ k. k < suc (length xs)) (sym w) (omega arith)
  | inr other ↦
      let w = ap (λ b. pick b 0 (suc (index_of n xs))) other in
      let lt = index_within n xs (ap (λ b. either b (is_among n xs)) (sym other) ∙ e) in
      subst (λ k. k < suc (length xs)) (sym w) (omega arith)
]

mapped_index : (f : ℕ → Node) (xs : List ℕ) (n : ℕ) → is_among n xs ≡ true → node_at (map f xs) (index_of n xs) ≡ f n
mapped_index f [] n e = absurd (true≢false (sym e))
mapped_index f (x ∷ xs) n e = elim (both_ways (eqb x n)) [
  | inl it ↦ ap (λ b. node_at (map f (x ∷ xs)) (pick b 0 (suc (index_of n xs)))) it ∙ ap f (is_same x n it)
  | inr other ↦ ap (λ b. node_at (map f (x ∷ xs)) (pick b 0 (suc (index_of n xs)))) other ∙ mapped_index f xs n (ap (λ b. either b (is_among n xs)) (sym other) ∙ e)
]

-- ---- names of slots

mapped_slot : (order : List ℕ) (xs : List (Option ℕ)) (k : ℕ) → slot (map (renumbered order) xs) k ≡ renumbered order (slot xs k)
mapped_slot order [] k = refl
mapped_slot order (x ∷ xs) zero = refl
mapped_slot order (x ∷ xs) (suc k) = mapped_slot order xs k

among_named : (xs : List (Option ℕ)) (k n : ℕ) → slot xs k ≡ Some n → is_among n (named xs) ≡ true
among_named [] k n e = absurd (cc)
among_named (None ∷ xs) zero n e = absurd (cc)
among_named (None ∷ xs) (suc k) n e = among_named xs k n e
among_named (Some y ∷ xs) zero n e = ap (λ b. either b (is_among n (named xs))) (ap (λ z. eqb z n) (the y e) ∙ same_is n)
  where
    the : (z : ℕ) → Some z ≡ Some n → z ≡ n
    the z w = cc
among_named (Some y ∷ xs) (suc k) n e = member_tail n y (named xs) (among_named xs k n e)

slot_left : (xs ys : List (Option ℕ)) (k n : ℕ) → slot xs k ≡ Some n → slot (xs ++ ys) k ≡ Some n
slot_left [] ys k n e = absurd (cc)
slot_left (x ∷ xs) ys zero n e = e
slot_left (x ∷ xs) ys (suc k) n e = slot_left xs ys k n e

in_order : (g : Graph) (k n : ℕ) → slot g.locals k ≡ Some n → is_among n (order_of g) ≡ true
in_order g k n e = elim (in_firsts n [] (slots_of g) (among_named (g.locals ++ reverse g.stack) k n (slot_left g.locals (reverse g.stack) k n e))) [ inl w ↦ absurd (true≢false (sym w)) | inr w ↦ w ]

named_before : (order : List ℕ) (x : Option ℕ) (n : ℕ) → renumbered order x ≡ Some n → (b : ℕ) × (x ≡ Some b) × (n ≡ index_of b order)
named_before order None n e = absurd (cc)
named_before order (Some b) n e = (b, refl, sym (the (index_of b order) e))
  where
    the : (z : ℕ) → Some z ≡ Some n → z ≡ n
    the z w = cc

kept_slot : (types : List VType) (xs : List (Option ℕ)) (k : ℕ) → slot (kept_names types xs) k ≡ kept_name (peek types k) (slot xs k)
kept_slot types [] k = by (peek types k)
  where
    by : (t : VType) → None ≡ kept_name t None
    by Top = refl
    by Int = refl
    by Long = refl
    by Null = refl
    by UninitThis = refl
    by (Uninit at) = refl
    by (Object ty) = refl
kept_slot [] (x ∷ xs) zero = refl
kept_slot (t ∷ ts) (x ∷ xs) zero = refl
kept_slot [] (x ∷ xs) (suc k) = kept_slot [] xs k
kept_slot (t ∷ ts) (x ∷ xs) (suc k) = kept_slot ts xs k

kept_before : (t : VType) (x : Option ℕ) (n : ℕ) → kept_name t x ≡ Some n → x ≡ Some n
kept_before Top x n e = absurd (cc)
kept_before Int x n e = e
kept_before Long x n e = e
kept_before Null x n e = e
kept_before UninitThis x n e = e
kept_before (Uninit at) x n e = e
kept_before (Object ty) x n e = e

kept_is : (t : VType) (x : Option ℕ) → is_top t ≡ false → kept_name t x ≡ x
kept_is Top x e = absurd (true≢false e)
kept_is Int x e = refl
kept_is Long x e = refl
kept_is Null x e = refl
kept_is UninitThis x e = refl
kept_is (Uninit at) x e = refl
kept_is (Object ty) x e = refl

-- ---- the canonical form

-- Each local names a node, and what hangs on another isn't gone: so it is in each canonical graph.
pub record IsClean (g : Graph) : Type 0 where
  pub within : (k n : ℕ) → slot g.locals k ≡ Some n → n < length g.nodes
  pub held : (n : ℕ) (e : ℕ × Label) → (node_of g n).parent ≡ Some e → is_gone (node_of g n).standing ≡ false

parent_lives : (nodes : List Node) (order : List ℕ) (gone : Bool) (parent : Option (ℕ × Label)) (e : ℕ × Label) → parent_in nodes order gone parent ≡ Some e → gone ≡ false
parent_lives nodes order false parent e is = refl
parent_lives nodes order true None e is = absurd (cc)
parent_lives nodes order true (Some q) e is = absurd (cc)

pub canonical_clean : (g : Graph) → IsClean (canonical g)
unfolding canonical
canonical_clean g = record {
  within = λ k n e.
      let b = named_before (order_of g) (slot g.locals k) n (sym (mapped_slot (order_of g) g.locals k) ∙ e) in
      let lt = index_within b.0 (order_of g) (in_order g k b.0 b.1) in
      subst (λ z. z < length (map node (order_of g))) (sym b.2) (subst (λ z. index_of b.0 (order_of g) < z) (sym (mapped_length node (order_of g))) lt);
  held = λ n e is. elim (mapped_at node (order_of g) n) [
    | inl w ↦ absurd (none_some e (ap (λ (z : Node). z.parent) (sym w) ∙ is))
    | inr w ↦
        let old = number_at (order_of g) n in
        ap (λ (z : Node). is_gone z.standing) w ∙ parent_lives g.nodes (order_of g) (is_gone (node_at g.nodes old).standing) (node_at g.nodes old).parent e (ap (λ (z : Node). z.parent) (sym w) ∙ is)
  ];
}
  where
    node : ℕ → Node
    node = λ n. canonical_node g.nodes (order_of g) n

    none_some : (e : ℕ × Label) → ◌≡◌ {A = Option (ℕ × Label)} None (Some e) → ⊥
    none_some e is = cc

pub clean_at : (d : Option Types) (g : Graph) → IsClean (canonical_at d g)
clean_at None g = canonical_clean g
clean_at (Some d) g = canonical_clean (cleared d g)

-- ---- what the canonical form leaves of a local

-- a local that names what is gone still does
gone_stays : (g : Graph) (k n : ℕ) → slot g.locals k ≡ Some n → is_gone (node_of g n).standing ≡ true → (j : ℕ) × (slot (canonical g).locals k ≡ Some j) × (is_gone (node_of (canonical g) j).standing ≡ true)
unfolding canonical
gone_stays g k n e gone = (
  index_of n (order_of g),
  mapped_slot (order_of g) g.locals k ∙ ap (renumbered (order_of g)) e,
  ap (λ (z : Node). is_gone z.standing) (mapped_index (λ i. canonical_node g.nodes (order_of g) i) (order_of g) n (in_order g k n e)) ∙ gone,
)

-- the declared frame, where there is one, has a type for the local
abbrev pub HasType : Option Types → ℕ → Type 0
HasType None k = Unit {0}
HasType (Some d) k = is_top (peek d.locals k) ≡ false

pub gone_at : (d : Option Types) (g : Graph) (k n : ℕ) → HasType d k → slot g.locals k ≡ Some n → is_gone (node_of g n).standing ≡ true → (j : ℕ) × (slot (canonical_at d g).locals k ≡ Some j) × (is_gone (node_of (canonical_at d g) j).standing ≡ true)
gone_at None g k n typed e gone = gone_stays g k n e gone
gone_at (Some d) g k n typed e gone = gone_stays (cleared d g) k n (kept_slot d.locals g.locals k ∙ (kept_is (peek d.locals k) (slot g.locals k) typed ∙ e)) gone

-- what names a node did so before
named_stays : (g : Graph) (k j : ℕ) → slot (canonical g).locals k ≡ Some j → (n : ℕ) × (slot g.locals k ≡ Some n)
unfolding canonical
named_stays g k j e =
    let b = named_before (order_of g) (slot g.locals k) j (sym (mapped_slot (order_of g) g.locals k) ∙ e) in
    (b.0, b.1)

pub named_at : (d : Option Types) (g : Graph) (k j : ℕ) → slot (canonical_at d g).locals k ≡ Some j → (n : ℕ) × (slot g.locals k ≡ Some n)
named_at None g k j e = named_stays g k j e
named_at (Some d) g k j e =
    let b = named_stays (cleared d g) k j e in
    (b.0, kept_before (peek d.locals k) (slot g.locals k) b.0 (sym (kept_slot d.locals g.locals k) ∙ b.1))
