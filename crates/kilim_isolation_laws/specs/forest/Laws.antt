-- What the steps on nodes keep of the relation between graphs and a heap (own, after Srinivasan and Mycroft, 2008).
-- FieldLabel f stands at the place 2f of an object, an element at an odd one.
use Rattle.std.specs.Prelude.{◌≡◌, ℕ, ◌+◌, ◌*◌, Bool, true, false, Option, Some, None, List, [], ◌∷◌}
use Rattle.kilim_isolation_laws.specs.forest.Heap.{Heap, IsForest, IsSet_at, IsWithout, walk}
use Rattle.kilim_isolation_laws.specs.forest.Relation.{Standing, Root, Label, Field, Element, Node, Named, Names, Relates, Frames}
use Rattle.kilim_isolation_laws.specs.forest.Steps.{cut_node, join_node, gone_node, IsTidy, IsField_store, Qualifier, entry_node, after_arguments, arguments, IsCall}
use Rattle.kilim_isolation_laws.specs.forest.Canonical.{node_at, number_at, firsts, canonical_nodes}

abbrev pub IsPlace : ℕ → Label → Type 0
IsPlace p (Field f) = p ≡ 2 * f.0
IsPlace p Element = (k : ℕ) × (p ≡ 2 * k + 1)

-- a store of a root keeps the relation of all frames
abbrev pub StoreKeeps : Type 0
StoreKeeps = (h h' : Heap) (u : Named) (ls : List Named) (na nb a b f fuel new : ℕ) (l : Label) (c : Option ℕ) → IsForest h → Frames IsPlace h (u ∷ ls) → IsTidy u.node →
    IsField_store IsPlace h u na nb a b f new l c → IsSet_at h h' a f (Some b) →
    IsForest h' × Frames IsPlace h' (record { node = λ n. join_node (λ m. cut_node u.node fuel na c new m) na nb l n; at = u.at } ∷ ls)

-- a put keeps the relation of all frames
abbrev pub PutKeeps : Type 0
PutKeeps = (h h' : Heap) (u : Named) (ls : List Named) (nb b : ℕ) → IsForest h → Frames IsPlace h (u ∷ ls) → Names u nb b → (u.node nb).standing ≡ Root → IsWithout h h' b →
    IsForest h' × Frames IsPlace h' (record { node = λ n. gone_node u.node nb n; at = u.at } ∷ ls)

-- no object is met twice below any object
abbrev pub MetOnce : Type 0
MetOnce = (h : Heap) (o x : ℕ) (is js : List ℕ) → IsForest h → walk h o is ≡ Some x → walk h o js ≡ Some x → is ≡ js

-- a call that breaks none of the rules of arguments keeps the relation of all frames
abbrev pub CallKeeps : Type 0
CallKeeps = (h : Heap) (u : Named) (ls : List Named) (fuel count : ℕ) (qual : ℕ → Qualifier) (arg value : ℕ → Option ℕ) → IsForest h → Frames IsPlace h (u ∷ ls) → IsTidy u.node →
    IsCall u count qual arg value →
    Frames IsPlace h ((record { node = λ k. entry_node (qual k) k; at = value }) ∷ (record { node = after_arguments fuel u.node (arguments qual arg count); at = u.at }) ∷ ls)

-- the canonical form keeps the relation
abbrev pub CanonicalKeeps : Type 0
CanonicalKeeps = (h : Heap) (nodes : List Node) (at : ℕ → Option ℕ) (slots : List ℕ) → Relates IsPlace h (record { node = node_at nodes; at = at }) →
    Relates IsPlace h (record { node = node_at (canonical_nodes nodes slots); at = λ n. at (number_at (firsts [] slots) n) })
