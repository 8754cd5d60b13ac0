-- What an instruction does to a graph: a mark for each rule that it breaks, and the graph that it leaves.
use Rattle.std.specs.Prelude.{ℕ, Bool, true, false, not, ◌||◌, ◌&&◌, List, [], ◌∷◌, Option, Some, None, length}
use Rattle.std.specs.List.{list_any}
use Rattle.kilim_program.specs.declared.ty.Kind.{Kind}
use Rattle.kilim_program.specs.declared.ty.Kind.TheVariants as kind
use Rattle.kilim_program.specs.declared.verified.VType.{VType}
use Rattle.kilim_program.specs.declared.verified.VType.TheVariants.{Object}
use Rattle.kilim_program.specs.Program.{Program}
use Rattle.kilim_program.specs.Kinds.{kind_of, is_tree_kind, is_private_kind}
use Rattle.kilim_type_spec.specs.Step.{Types}
use Rattle.kilim_isolation_graph.specs.declared.graph.Graph.{Graph}
use Rattle.kilim_isolation_graph.specs.declared.node.Node.{Node}
use Rattle.kilim_isolation_graph.specs.declared.node.Standing.{Standing}
use Rattle.kilim_isolation_graph.specs.declared.node.Standing.TheVariants.{Root}
use Rattle.kilim_isolation_graph.specs.Nodes.{is_root, is_safe, is_gone, new_region}
use Rattle.kilim_isolation_graph.specs.Graphs.{node_of, push, added}
use Rattle.kilim_isolation_rules.specs.declared.deed.Broken.{Broken}
use Rattle.kilim_isolation_rules.specs.declared.deed.Deed.{Deed}

-- ---- nodes of slots

-- the slot names a node, of such a standing
abbrev pub names_one : (Standing → Bool) → Graph → Option ℕ → Bool
names_one test g None = false
names_one test g (Some n) = test (node_of g n).standing

abbrev pub names_gone : Graph → Option ℕ → Bool
names_gone g x = names_one is_gone g x

abbrev pub names_safe : Graph → Option ℕ → Bool
names_safe g x = names_one is_safe g x

-- the slot names a node that isn't the known root of a whole tree
abbrev pub names_no_root : Graph → Option ℕ → Bool
names_no_root g x = names_one (λ s. not (is_root s)) g x

-- ---- types of slots

abbrev pub is_tree : Program → VType → Bool
is_tree p (Object ty) = is_tree_kind (kind_of p ty)
is_tree p t = false

abbrev pub is_private : Program → VType → Bool
is_private p (Object ty) = is_private_kind (kind_of p ty)
is_private p t = false

-- a tree flows into a private type
abbrev pub mixes : Program → VType → VType → Bool
mixes p t into = is_tree p t && is_private p into

abbrev pub any_mixes : Program → List VType → List VType → Bool
any_mixes p [] into = false
any_mixes p (t ∷ ts) [] = false
any_mixes p (t ∷ ts) (d ∷ ds) = mixes p t d || any_mixes p ts ds

-- types flow into a declared frame, and a tree becomes private
abbrev pub flow_mixes : Program → Types → Types → Bool
flow_mixes p f d = any_mixes p f.locals d.locals || any_mixes p f.stack d.stack

-- ---- deeds

-- no rule is broken
abbrev pub plain : Graph → Deed
plain g = record { not_free = false; gone = false; safe_changed = false; cycle = false; shared = false; mixed = false; not_cuttable = false; graph = g }

abbrev pub none_broken : Broken
none_broken = record { not_free = false; gone = false; safe_changed = false; cycle = false; shared = false; mixed = false; not_cuttable = false }

-- what leaves a graph and breaks these rules
abbrev pub marked : Broken → Graph → Deed
marked b g = record { not_free = b.not_free; gone = b.gone; safe_changed = b.safe_changed; cycle = b.cycle; shared = b.shared; mixed = b.mixed; not_cuttable = b.not_cuttable; graph = g }

-- a root is the head of a new region
abbrev pub root_node : Graph → Node
root_node g = record { region = new_region g.nodes; standing = Root; head = true; parent = None }

-- a new object, or the result of a call: a tree is a root, and another kind names no node
abbrev pub given : Kind → Graph → Graph
given kind.Tree g = added (root_node g) g
given k g = push None g

-- the stack holds what is gone
abbrev pub stack_lives : Graph → Bool
stack_lives g = not (list_any (names_gone g) g.stack)
