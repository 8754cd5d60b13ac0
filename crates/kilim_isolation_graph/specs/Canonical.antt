-- The canonical form of a shape graph. Nodes that no slot names are dropped with their edges, and so are edges from or to a
-- gone node. Nodes are numbered by the least slot that names them, locals before the stack and the stack from its bottom;
-- regions by their least node.
use Rattle.std.specs.Prelude.{ℕ, suc, Bool, false, not, ◌||◌, ◌==◌, if◌then◌else◌, List, [], ◌∷◌, ◌++◌, Option, Some, None, map, reverse}
use Rattle.kilim_program.specs.declared.verified.VType.{VType}
use Rattle.kilim_type_spec.specs.Step.{Types, peek, is_top}
use Rattle.kilim_isolation_graph.specs.declared.graph.Graph.{Graph}
use Rattle.kilim_isolation_graph.specs.declared.node.Label.{Label}
use Rattle.kilim_isolation_graph.specs.declared.node.Node.{Node}
use Rattle.kilim_isolation_graph.specs.Nodes.{is_gone, node_at}

abbrev pub is_among : ℕ → List ℕ → Bool
is_among n [] = false
is_among n (x ∷ xs) = x == n || is_among n xs

-- where a number stands first; as many as there are where it doesn't
abbrev pub index_of : ℕ → List ℕ → ℕ
index_of n [] = 0
index_of n (x ∷ xs) = if x == n then 0 else suc (index_of n xs)

-- each number once, where it stands first, but for those that were seen
abbrev pub firsts : List ℕ → List ℕ → List ℕ
firsts seen [] = []
firsts seen (x ∷ xs) = if is_among x seen then firsts seen xs else x ∷ firsts (x ∷ seen) xs

abbrev pub named : List (Option ℕ) → List ℕ
named [] = []
named (None ∷ xs) = named xs
named (Some n ∷ xs) = n ∷ named xs

-- the nodes that slots name, by slot
abbrev pub slots_of : Graph → List ℕ
slots_of g = named (g.locals ++ reverse g.stack)

-- the nodes that are kept, in their new order
abbrev pub order_of : Graph → List ℕ
order_of g = firsts [] (slots_of g)

abbrev pub regions_of : List Node → List ℕ → List ℕ
regions_of nodes order = firsts [] (map (λ n. (node_at nodes n).region) order)

-- an edge is kept where both nodes are, and neither is gone
abbrev pub parent_in : List Node → List ℕ → Bool → Option (ℕ × Label) → Option (ℕ × Label)
parent_in nodes order gone None = None
parent_in nodes order gone (Some p) = if gone || (is_gone (node_at nodes p.0).standing || not (is_among p.0 order)) then None else Some (index_of p.0 order, p.1)

abbrev pub canonical_node : List Node → List ℕ → ℕ → Node
canonical_node nodes order n = record {
  region = index_of (node_at nodes n).region (regions_of nodes order);
  standing = (node_at nodes n).standing;
  head = (node_at nodes n).head;
  parent = parent_in nodes order (is_gone (node_at nodes n).standing) (node_at nodes n).parent;
}

abbrev pub renumbered : List ℕ → Option ℕ → Option ℕ
renumbered order None = None
renumbered order (Some n) = Some (index_of n order)

unfoldable pub canonical : Graph → Graph
canonical g = record {
  locals = map (renumbered (order_of g)) g.locals;
  stack = map (renumbered (order_of g)) g.stack;
  nodes = map (canonical_node g.nodes (order_of g)) (order_of g);
}

-- a slot that a declared frame types as Top names no node
abbrev pub kept_name : VType → Option ℕ → Option ℕ
kept_name t x = if is_top t then None else x

abbrev pub kept_names : List VType → List (Option ℕ) → List (Option ℕ)
kept_names types [] = []
kept_names types (x ∷ xs) = kept_name (peek types 0) x ∷ kept_names (rest types) xs
  where
    rest : List VType → List VType
    rest [] = []
    rest (t ∷ ts) = ts

abbrev pub cleared : Types → Graph → Graph
cleared f g = record g { locals = kept_names f.locals g.locals; stack = kept_names f.stack g.stack }

-- the canonical form at a place, with the frame that is declared there
abbrev pub canonical_at : Option Types → Graph → Graph
canonical_at None g = canonical g
canonical_at (Some f) g = canonical (cleared f g)
