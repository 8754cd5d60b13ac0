-- The graph with which a method begins.
use Rattle.std.specs.Prelude.{ℕ, zero, suc, ◌-◌, Bool, true, false, ◌&&◌, ◌==◌, if◌then◌else◌, List, [], ◌∷◌, ◌++◌, Option, Some, None, length, replicate}
use Rattle.kilim_program.specs.declared.class.Method.{Method}
use Rattle.kilim_program.specs.declared.ty.Base.{Base}
use Rattle.kilim_program.specs.declared.ty.Base.TheVariants as base
use Rattle.kilim_program.specs.declared.ty.Qualifier.{Qualifier}
use Rattle.kilim_program.specs.declared.ty.Qualifier.TheVariants as qualifier
use Rattle.kilim_program.specs.declared.ty.Ty.{Ty}
use Rattle.kilim_program.specs.declared.verified.VType.{VType}
use Rattle.kilim_program.specs.declared.verified.VType.TheVariants.{Long}
use Rattle.kilim_program.specs.Program.{Program}
use Rattle.kilim_program.specs.BuiltIn.{class_type}
use Rattle.kilim_program.specs.Kinds.{kind_of, is_tree_kind}
use Rattle.kilim_type_spec.specs.Step.{vtype}
use Rattle.kilim_isolation_graph.specs.declared.entry.Parameter.{Parameter}
use Rattle.kilim_isolation_graph.specs.declared.graph.Graph.{Graph}
use Rattle.kilim_isolation_graph.specs.declared.node.Node.{Node}
use Rattle.kilim_isolation_graph.specs.declared.node.Standing.TheVariants.{Root, Inner, Safe}
use Rattle.kilim_isolation_graph.specs.Nodes.{absent, listed}

-- what a method may do with a tree of that type that it is handed; none where the type is no tree
abbrev pub quality : Program → Ty → Qualifier → Option Qualifier
quality p ty q = if is_tree_kind (kind_of p ty) then Some q else None

abbrev pub declared_parameters : List Ty → List Qualifier → List Parameter
declared_parameters (ty ∷ tys) (q ∷ qs) = record { ty = ty; qualifier = q } ∷ declared_parameters tys qs
declared_parameters tys qs = []

-- the receiver counts as a parameter, the first one
abbrev pub parameters_of : Method → List Parameter
parameters_of m =
    if m.is_static then declared_parameters m.params m.qualifiers
    else record { ty = class_type m.owner.0; qualifier = m.receiver } ∷ declared_parameters m.params m.qualifiers

abbrev pub quality_from : Program → List Parameter → ℕ → Option Qualifier
quality_from p [] k = None
quality_from p (a ∷ rest) zero = quality p a.ty a.qualifier
quality_from p (a ∷ rest) (suc k) = quality_from p rest k

-- the node of a parameter that is a tree has the parameter's number
abbrev pub tree_name : Program → Ty → ℕ → Option ℕ
tree_name p ty n = if is_tree_kind (kind_of p ty) then Some n else None

abbrev pub is_long_base : Base → Bool
is_long_base base.Long = true
is_long_base b = false

abbrev pub is_long_type : Ty → Bool
is_long_type ty = ty.dims == 0 && is_long_base ty.base

-- a long takes two slots
abbrev pub name_slots : VType → Option ℕ → List (Option ℕ) → List (Option ℕ)
name_slots Long x rest = x ∷ None ∷ rest
name_slots t x rest = x ∷ rest

-- the slots of these parameters; the first of them has that number
abbrev pub entry_names : Program → List Parameter → ℕ → List (Option ℕ)
entry_names p [] n = []
entry_names p (a ∷ rest) n = name_slots (vtype a.ty) (tree_name p a.ty n) (entry_names p rest (suc n))

-- A free parameter is a root and the head of a region of its own, a cuttable one is the head of a region of its own, and all
-- safe ones are of one region.
abbrev pub entry_node : Option Qualifier → ℕ → Node
entry_node None k = absent
entry_node (Some qualifier.Free) k = record { region = suc k; standing = Root; head = true; parent = None }
entry_node (Some qualifier.Cuttable) k = record { region = suc k; standing = Inner; head = true; parent = None }
entry_node (Some qualifier.Safe) k = record { region = 0; standing = Safe; head = false; parent = None }

-- the further locals name nothing
abbrev pub entry_locals : Program → Method → List (Option ℕ)
entry_locals p m = entry_names p (parameters_of m) 0 ++ replicate (m.max_locals - length (entry_names p (parameters_of m) 0)) None

unfoldable pub entry_nodes : Program → Method → Graph
entry_nodes p m = record {
  locals = entry_locals p m;
  stack = [];
  nodes = listed (λ k. entry_node (quality_from p (parameters_of m) k) k) (length (parameters_of m));
}
