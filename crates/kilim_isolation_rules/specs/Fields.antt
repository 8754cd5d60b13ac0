-- Reading and storing fields and elements.
use Rattle.std.specs.Prelude.{ℕ, zero, suc, ◌+◌, ◌-◌, Bool, true, false, not, ◌||◌, ◌&&◌, ◌==◌, if◌then◌else◌, List, [], ◌∷◌, Option, Some, None, length}
use Rattle.kilim_program.specs.declared.class.Field.{Field}
use Rattle.kilim_program.specs.declared.names.FieldId.{FieldId}
use Rattle.kilim_program.specs.declared.ty.Kind.{Kind}
use Rattle.kilim_program.specs.declared.ty.Kind.TheVariants as kind
use Rattle.kilim_program.specs.declared.verified.VType.{VType}
use Rattle.kilim_program.specs.declared.verified.VType.TheVariants.{Object}
use Rattle.kilim_program.specs.Program.{Program}
use Rattle.kilim_program.specs.Kinds.{kind_of}
use Rattle.kilim_type_spec.specs.Step.{peek}
use Rattle.kilim_isolation_graph.specs.declared.graph.Graph.{Graph}
use Rattle.kilim_isolation_graph.specs.declared.node.Label.{Label}
use Rattle.kilim_isolation_graph.specs.declared.node.Label.TheVariants as label
use Rattle.kilim_isolation_graph.specs.declared.node.Node.{Node}
use Rattle.kilim_isolation_graph.specs.declared.node.Standing.TheVariants.{Inner, Safe}
use Rattle.kilim_isolation_graph.specs.Nodes.{is_root, is_safe, node_at, new_region}
use Rattle.kilim_isolation_graph.specs.Graphs.{slot, node_of, push, popped, added, changed}
use Rattle.kilim_isolation_rules.specs.declared.deed.Deed.{Deed}
use Rattle.kilim_isolation_rules.specs.Steps.{cut_node, join_node}
use Rattle.kilim_isolation_rules.specs.Marks.{plain, is_tree}

abbrev pub same_label : Label → FieldId → Bool
same_label (label.Field f) field = f.0 == field.0
same_label label.Element field = false

abbrev pub is_child : Option (ℕ × Label) → ℕ → FieldId → Bool
is_child None a field = false
is_child (Some edge) a field = edge.0 == a && same_label edge.1 field

-- the first of these nodes that hangs on a by that field; the first of all has that number
abbrev pub known_child : List Node → (first a : ℕ) → FieldId → Option ℕ
known_child [] first a field = None
known_child (node ∷ nodes) first a field = if is_child node.parent a field then Some first else known_child nodes (suc first) a field

-- the known child of a node; no element is one
abbrev pub child_by : Graph → Label → ℕ → Option ℕ
child_by g (label.Field field) a = known_child g.nodes 0 a field
child_by g label.Element a = None

-- a known child is named again; another object of the region gets a node, with its edge
abbrev pub got : Graph → Label → ℕ → Option ℕ → Graph
got g l a None = added (record { region = (node_of g a).region; standing = Inner; head = false; parent = Some (a, l) }) g
got g l a (Some child) = push (Some child) g

-- what is read from a safe object is safe
abbrev pub got_safe : Graph → ℕ → Graph
got_safe g a = added (record { region = (node_of g a).region; standing = Safe; head = false; parent = None }) g

-- a tree is read from a field or an element of what a slot names
abbrev pub read_from : Graph → Label → Option ℕ → Graph
read_from g l None = push None g
read_from g l (Some a) = if is_safe (node_of g a).standing then got_safe g a else got g l a (child_by g l a)

-- a field or an element of that kind is read, and so many items are taken
abbrev pub reads : Kind → (takes : ℕ) → Label → Option ℕ → Graph → Graph
reads kind.Tree takes l x g = read_from (popped takes g) l x
reads k takes l x g = push None (popped takes g)

-- The known child leaves, as a tree of its own. Then all of the region is gone but its head, the object a and its known
-- ancestors.
abbrev pub cut : Graph → Label → (a n : ℕ) → Node
cut g l a n = cut_node (node_at g.nodes) (length g.nodes) a (child_by g l a) (new_region g.nodes) n

abbrev pub without_child : Graph → Label → ℕ → Graph
without_child g l a = changed (cut g l a) g

-- the tree of b hangs on a
abbrev pub joined : Graph → Label → (a b : ℕ) → Graph
joined g l a b = changed (join_node (node_at g.nodes) a b l) g

-- what the second slot names is stored into a field or an element of what the first one names
abbrev pub stored : Graph → Label → Option ℕ → Option ℕ → Deed
stored g l None y = plain g
stored g l (Some a) None = record (plain (without_child g l a)) { safe_changed = is_safe (node_of g a).standing }
stored g l (Some a) (Some b) = record (plain (joined (without_child g l a) l a b)) {
  not_free = not (is_root (node_of g b).standing);
  safe_changed = is_safe (node_of g a).standing;
  cycle = is_root (node_of g b).standing && (node_of g b).region == (node_of g a).region;
}

-- a value of a type is stored into a field or an element of a kind
abbrev pub stores : Program → Kind → VType → Label → Option ℕ → Option ℕ → Graph → Deed
stores p kind.Value t l x y g = plain g
stores p kind.Tree t l x y g = stored g l x y
stores p kind.Private t l x y g = record (plain g) { mixed = is_tree p t }

abbrev pub gets_field : Program → Graph → FieldId → Option Field → Deed
gets_field p g id None = plain g
gets_field p g id (Some field) = plain (reads (kind_of p field.ty) 1 (label.Field id) (slot g.stack 0) g)

abbrev pub puts_field : Program → Graph → (types : List VType) → FieldId → Option Field → Deed
puts_field p g ts id None = plain g
puts_field p g ts id (Some field) = stores p (kind_of p field.ty) (peek ts 0) (label.Field id) (slot g.stack 1) (slot g.stack 0) (popped 2 g)

-- what the elements of an array are; null has none
abbrev pub element_kind : Program → VType → Kind
element_kind p (Object ty) = kind_of p (record ty { dims = ty.dims - 1 })
element_kind p t = kind.Value

abbrev pub gets_element : Program → Graph → (types : List VType) → Deed
gets_element p g ts = plain (reads (element_kind p (peek ts 1)) 2 label.Element (slot g.stack 1) g)

abbrev pub puts_element : Program → Graph → (types : List VType) → Deed
puts_element p g ts = stores p (element_kind p (peek ts 2)) (peek ts 0) label.Element (slot g.stack 2) (slot g.stack 0) (popped 3 g)
