-- Lists of nodes that grow: each tree keeps its values.
use Rattle.std.proofs.Common.{◌≡◌, ℕ, zero, suc, ◌+◌, ◌/◌, ◌%◌, ◌<◌, ◌==◌, List, [], ◌∷◌, ◌++◌, Option, Some, None, length, refl, sym, ap, ◌∙◌, arith, append_assoc, append-nil, inl, inr}
use Rattle.std.specs.List.{slice_get}
use Rattle.std.proofs.lemmas.List.{length-append}
use Rattle.std.proofs.lemmas.Bool.{cases_Bool}
use Rattle.kilim_lemmas.proofs.Lists.{get_front}
use Rattle.kilim_link_inherited.specs.declared.node.Node.{Node}
use Rattle.kilim_link_inherited.specs.declared.node.Node.TheVariants.{Empty, Leaf, Branch}
use Rattle.kilim_link_inherited.specs.Trees.{side, value_by, value_at, ChildrenWithin, IsTable, Grows}

pub side_within : (n even odd k : ℕ) → even < n → odd < n → side even odd k < n
side_within n even odd k e o =
    elim (cases_Bool (k % 2 == 0)) [
      | inl is ↦ rw is e
      | inr isnt ↦ rw isnt o
    ]

-- the trees below agree, so the node does
by_agrees : (f g : ℕ → ℕ → Option ℕ) (n : ℕ) → ((t k : ℕ) → t < n → f t k ≡ g t k) → (node : Option Node) (k : ℕ) → ChildrenWithin n node → value_by f node k ≡ value_by g node k
by_agrees f g n agree None k h = refl
by_agrees f g n agree (Some Empty) k h = refl
by_agrees f g n agree (Some (Leaf rest value)) k h = refl
by_agrees f g n agree (Some (Branch even odd)) k h = agree (side even odd k) (k / 2) (side_within n even odd k h.0 h.1)

-- a tree keeps its values, whatever is added
pub value_stays : (old more : List Node) → IsTable old → (d tree k : ℕ) → tree < length old → value_at (old ++ more) d tree k ≡ value_at old d tree k
value_stays old more table zero tree k lt = ap (λ (o : Option Node). value_by (λ _ _. None) o k) (get_front old more tree lt)
value_stays old more table (suc d) tree k lt =
    ap (λ (o : Option Node). value_by (value_at (old ++ more) d) o k) (get_front old more tree lt)
    ∙ by_agrees (value_at (old ++ more) d) (value_at old d) (length old) (λ t j h. value_stays old more table d t j h) (slice_get old tree) k (table.inside tree)

pub stays : (old new : List Node) → IsTable old → Grows old new → (d tree k : ℕ) → tree < length old → value_at new d tree k ≡ value_at old d tree k
stays old new table grown d tree k lt = ap (λ (nodes : List Node). value_at nodes d tree k) grown.1 ∙ value_stays old grown.0 table d tree k lt

pub grows_more : (a b c : List Node) → Grows a b → Grows b c → Grows a c
grows_more a b c f g = (f.0 ++ g.0, g.1 ∙ (ap (λ (xs : List Node). xs ++ g.0) f.1 ∙ append_assoc a f.0 g.0))

pub grows_none : (a : List Node) → Grows a a
grows_none a = ([], sym (append-nil a))

pub grown_length : (a b : List Node) → Grows a b → (n : ℕ) → n < length a → n < length b
grown_length a b g n lt = let e : length b ≡ length a + length g.0 = ap length g.1 ∙ length-append a g.0 in omega arith

children_more : (m n : ℕ) (node : Option Node) → ((i : ℕ) → i < m → i < n) → ChildrenWithin m node → ChildrenWithin n node
children_more m n None up h = tt
children_more m n (Some Empty) up h = tt
children_more m n (Some (Leaf rest value)) up h = tt
children_more m n (Some (Branch even odd)) up h = (up even h.0, up odd h.1)

get_add : (P : Option Node → Type 0) (xs : List Node) (y : Node) (i : ℕ) → P (slice_get xs i) → P (Some y) → P (slice_get (xs ++ y ∷ []) i)
get_add P [] y zero p q = q
get_add P [] y (suc i) p q = p
get_add P (x ∷ xs) y zero p q = p
get_add P (x ∷ xs) y (suc i) p q = get_add P xs y i p q

begins_more : (xs ys : List Node) → slice_get xs 0 ≡ Some Empty → slice_get (xs ++ ys) 0 ≡ Some Empty
begins_more [] ys e = absurd (cc)
begins_more (x ∷ xs) ys e = e

-- a table with one more node
pub table_more : (old : List Node) (node : Node) → IsTable old → ChildrenWithin (length old) (Some node) → IsTable (old ++ node ∷ [])
table_more old node table h =
    let n = length (old ++ node ∷ []) in
    let up : (i : ℕ) → i < length old → i < n = grown_length old (old ++ node ∷ []) (node ∷ [], refl) in
    record {
      begins = begins_more old (node ∷ []) table.begins;
      inside = λ i. get_add (ChildrenWithin n) old node i (children_more (length old) n (slice_get old i) up (table.inside i)) (children_more (length old) n (Some node) up h);
    }
