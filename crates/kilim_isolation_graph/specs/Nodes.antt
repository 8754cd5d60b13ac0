-- What is known of the nodes of a shape graph (own, after Srinivasan and Mycroft, "Kilim: Isolation-Typed Actors for
-- Java", 2008).
use Rattle.std.specs.Prelude.{ℕ, zero, suc, Bool, true, false, List, [], ◌∷◌, None, max}
use Rattle.kilim_isolation_graph.specs.declared.node.Node.{Node}
use Rattle.kilim_isolation_graph.specs.declared.node.Standing.{Standing}
use Rattle.kilim_isolation_graph.specs.declared.node.Standing.TheVariants.{Root, Inner, Safe, Gone}

abbrev pub is_root : Standing → Bool
is_root Root = true
is_root Inner = false
is_root Safe = false
is_root Gone = false

abbrev pub is_safe : Standing → Bool
is_safe Root = false
is_safe Inner = false
is_safe Safe = true
is_safe Gone = false

abbrev pub is_gone : Standing → Bool
is_gone Root = false
is_gone Inner = false
is_gone Safe = false
is_gone Gone = true

-- a number that is no node's counts as one of a gone node
abbrev pub absent : Node
absent = record { region = 0; standing = Gone; head = false; parent = None }

abbrev pub node_at : List Node → ℕ → Node
node_at [] n = absent
node_at (node ∷ nodes) zero = node
node_at (node ∷ nodes) (suc n) = node_at nodes n

-- so many nodes, each by its number
abbrev pub listed : (ℕ → Node) → ℕ → List Node
listed node zero = []
listed node (suc count) = node 0 ∷ listed (λ n. node (suc n)) count

-- one that is greater than each number of a region
abbrev pub new_region : List Node → ℕ
new_region [] = 0
new_region (node ∷ nodes) = max (suc node.region) (new_region nodes)
