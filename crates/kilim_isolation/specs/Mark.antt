-- The mark of a graph: a number by which different graphs are mostly told apart at once. That it is a function of the graph is
-- all that matters of it.
use Rattle.std.specs.Prelude.{ℕ, suc, ◌+◌, ◌*◌, ◌%◌, ◌^◌, if◌then◌else◌, List, [], ◌∷◌, Option, Some, None}
use Rattle.kilim_isolation_graph.specs.declared.graph.Graph.{Graph}
use Rattle.kilim_isolation_graph.specs.declared.node.Label.{Label}
use Rattle.kilim_isolation_graph.specs.declared.node.Label.TheVariants.{Field, Element}
use Rattle.kilim_isolation_graph.specs.declared.node.Node.{Node}
use Rattle.kilim_isolation_graph.specs.declared.node.Standing.{Standing}
use Rattle.kilim_isolation_graph.specs.declared.node.Standing.TheVariants.{Root, Inner, Safe, Gone}
use Rattle.kilim_isolation.specs.declared.mark.TheConstants.{MARK_FACTOR}

-- a mark with one more number
unfoldable pub mixed : ℕ → ℕ → ℕ
mixed mark number = ((mark * MARK_FACTOR) % 2 ^ 64 + number) % 2 ^ 64

abbrev pub slot_mixed : ℕ → Option ℕ → ℕ
slot_mixed mark None = mixed mark 0
slot_mixed mark (Some node) = mixed (mixed mark 1) node

abbrev pub slots_mixed : ℕ → List (Option ℕ) → ℕ
slots_mixed mark [] = mark
slots_mixed mark (slot ∷ slots) = slots_mixed (slot_mixed mark slot) slots

-- a slot that names a node, with its number
abbrev pub local_mixed : ℕ → ℕ → Option ℕ → ℕ
local_mixed mark at None = mark
local_mixed mark at (Some node) = mixed (mixed mark at) node

abbrev pub locals_mixed : ℕ → ℕ → List (Option ℕ) → ℕ
locals_mixed mark at [] = mark
locals_mixed mark at (slot ∷ slots) = locals_mixed (local_mixed mark at slot) (suc at) slots

abbrev pub standing_number : Standing → ℕ
standing_number Root = 2
standing_number Inner = 4
standing_number Safe = 6
standing_number Gone = 8

abbrev pub label_mixed : ℕ → Label → ℕ
label_mixed mark (Field field) = mixed (mixed mark 1) field.0
label_mixed mark Element = mixed mark 2

abbrev pub parent_mixed : ℕ → Option (ℕ × Label) → ℕ
parent_mixed mark None = mixed mark 0
parent_mixed mark (Some edge) = label_mixed (mixed mark edge.0) edge.1

abbrev pub node_mixed : ℕ → Node → ℕ
node_mixed mark node = parent_mixed (mixed (mixed mark (standing_number node.standing + (if node.head then 1 else 0))) node.region) node.parent

abbrev pub nodes_mixed : ℕ → List Node → ℕ
nodes_mixed mark [] = mark
nodes_mixed mark (node ∷ nodes) = nodes_mixed (node_mixed mark node) nodes

unfoldable pub mark_of : Graph → ℕ
mark_of g = locals_mixed (slots_mixed (nodes_mixed 0 g.nodes) g.stack) 0 g.locals
