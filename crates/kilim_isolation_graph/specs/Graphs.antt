-- Shape graphs: which nodes slots name.
use Rattle.std.specs.Prelude.{ℕ, zero, suc, List, [], ◌∷◌, ◌++◌, Option, Some, None, length, drop}
use Rattle.kilim_isolation_graph.specs.declared.graph.Graph.{Graph}
use Rattle.kilim_isolation_graph.specs.declared.node.Node.{Node}
use Rattle.kilim_isolation_graph.specs.Nodes.{node_at, listed}

-- what a slot names; one past the end names none
abbrev pub slot : List (Option ℕ) → ℕ → Option ℕ
slot [] k = None
slot (x ∷ xs) zero = x
slot (x ∷ xs) (suc k) = slot xs k

-- the slots, where one names something else
abbrev pub with_slot : List (Option ℕ) → ℕ → Option ℕ → List (Option ℕ)
with_slot [] zero x = x ∷ []
with_slot [] (suc k) x = None ∷ with_slot [] k x
with_slot (y ∷ ys) zero x = x ∷ ys
with_slot (y ∷ ys) (suc k) x = y ∷ with_slot ys k x

abbrev pub node_of : Graph → ℕ → Node
node_of g n = node_at g.nodes n

-- the nodes changed, each by its number
abbrev pub changed : (ℕ → Node) → Graph → Graph
changed node g = record g { nodes = listed node (length g.nodes) }

abbrev pub push : Option ℕ → Graph → Graph
push x g = record g { stack = x ∷ g.stack }

abbrev pub popped : ℕ → Graph → Graph
popped count g = record g { stack = drop count g.stack }

-- a new node, which the topmost item of the stack names
abbrev pub added : Node → Graph → Graph
added node g = record g { stack = Some (length g.nodes) ∷ g.stack; nodes = g.nodes ++ node ∷ [] }
