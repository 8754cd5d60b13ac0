-- Calls. The arguments first, with their rules, and then the result: a waiting frame keeps the graph between the two.
use Rattle.std.specs.Prelude.{ℕ, zero, suc, ◌+◌, Bool, true, false, not, ◌||◌, ◌&&◌, ◌==◌, if◌then◌else◌, List, [], ◌∷◌, Option, Some, None, length, take, reverse}
use Rattle.std.specs.List.{list_any}
use Rattle.kilim_program.specs.declared.class.Method.{Method}
use Rattle.kilim_program.specs.declared.ty.Qualifier.{Qualifier}
use Rattle.kilim_program.specs.declared.ty.Qualifier.TheVariants as qualifier
use Rattle.kilim_program.specs.declared.ty.Ty.{Ty}
use Rattle.kilim_program.specs.declared.verified.VType.{VType}
use Rattle.kilim_program.specs.declared.verified.VType.TheVariants.{Object}
use Rattle.kilim_program.specs.Program.{Program}
use Rattle.kilim_program.specs.BuiltIn.{class_type}
use Rattle.kilim_program.specs.Kinds.{kind_of}
use Rattle.kilim_program.specs.Same.{is_constructor}
use Rattle.kilim_type_spec.specs.Step.{peek}
use Rattle.kilim_isolation_graph.specs.declared.graph.Graph.{Graph}
use Rattle.kilim_isolation_graph.specs.Nodes.{node_at}
use Rattle.kilim_isolation_graph.specs.Graphs.{slot, node_of, popped, changed}
use Rattle.kilim_isolation_graph.specs.Entry.{quality}
use Rattle.kilim_isolation_rules.specs.declared.deed.Deed.{Deed}
use Rattle.kilim_isolation_rules.specs.declared.deed.Passed.{Passed}
use Rattle.kilim_isolation_rules.specs.Steps.{Argument, Free, Cuttable, cut_node, gone_node}
use Rattle.kilim_isolation_rules.specs.Marks.{plain, given, names_safe, names_no_root, mixes}

abbrev pub is_free : Option Qualifier → Bool
is_free None = false
is_free (Some qualifier.Free) = true
is_free (Some qualifier.Cuttable) = false
is_free (Some qualifier.Safe) = false

abbrev pub is_cuttable : Option Qualifier → Bool
is_cuttable None = false
is_cuttable (Some qualifier.Free) = false
is_cuttable (Some qualifier.Cuttable) = true
is_cuttable (Some qualifier.Safe) = false

-- the callee may change what it is handed
abbrev pub is_owned : Option Qualifier → Bool
is_owned q = is_free q || is_cuttable q

-- The receiver of a constructor has the constructor's own qualifier, also where its class is no tree: that of `java/lang/Object` too. (Linking
-- makes it cuttable, always.)
abbrev pub quality_in : Program → Passed → Option Qualifier
quality_in p a = if a.is_begun then Some a.qualifier else quality p a.into a.qualifier

-- ---- the arguments

abbrev pub parameters : List Ty → List Qualifier → List (Option ℕ) → List VType → List Passed
parameters (into ∷ intos) (q ∷ qs) (x ∷ xs) (t ∷ ts) = record { name = x; ty = t; into = into; qualifier = q; is_begun = false } ∷ parameters intos qs xs ts
parameters intos qs xs ts = []

abbrev pub receiver : Method → Option ℕ → VType → Passed
receiver callee x t = record { name = x; ty = t; into = class_type callee.owner.0; qualifier = callee.receiver; is_begun = is_constructor callee }

-- the receiver first; the last argument is the topmost item of the stack
abbrev pub all_passed : Method → Graph → (types : List VType) → List Passed
all_passed callee g ts =
    let count = length callee.params in
    let params = parameters callee.params callee.qualifiers (reverse (take count g.stack)) (reverse (take count ts)) in
    if callee.is_static then params else receiver callee (slot g.stack count) (peek ts count) ∷ params

-- ---- the rules

abbrev pub same_region : Graph → Option ℕ → Option ℕ → Bool
same_region g (Some n) (Some m) = (node_of g n).region == (node_of g m).region
same_region g x y = false

abbrev pub shares : Program → Graph → Passed → Passed → Bool
shares p g a b = same_region g a.name b.name && (is_owned (quality_in p a) || is_owned (quality_in p b))

abbrev pub any_two : {A : Type 0} → (A → A → Bool) → List A → Bool
any_two test [] = false
any_two test (x ∷ xs) = list_any (test x) xs || any_two test xs

-- a free argument names a node that is no root
abbrev pub is_not_free : Program → Graph → Passed → Bool
is_not_free p g a = is_free (quality_in p a) && names_no_root g a.name

-- a tree becomes private; the receiver of a constructor doesn't count
abbrev pub is_mixed : Program → Passed → Bool
is_mixed p a = not a.is_begun && mixes p a.ty (Object a.into)

abbrev pub is_not_cuttable : Program → Graph → Passed → Bool
is_not_cuttable p g a = is_cuttable (quality_in p a) && names_safe g a.name

-- ---- the graph

abbrev pub more_arguments : Option Qualifier → Option ℕ → List Argument → List Argument
more_arguments (Some qualifier.Free) (Some n) xs = Free n ∷ xs
more_arguments (Some qualifier.Cuttable) (Some n) xs = Cuttable n ∷ xs
more_arguments q x xs = xs

abbrev pub arguments : Program → List Passed → List Argument
arguments p [] = []
arguments p (a ∷ rest) = more_arguments (quality_in p a) a.name (arguments p rest)

-- what is left of a graph by an argument, and by all in their order: a free one is given away, below a cuttable one it is
-- changed
abbrev pub after_argument : Argument → Graph → Graph
after_argument (Free n) g = changed (gone_node (node_at g.nodes) n) g
after_argument (Cuttable n) g = changed (cut_node (node_at g.nodes) (length g.nodes) n None 0) g

abbrev pub after_arguments : List Argument → Graph → Graph
after_arguments [] g = g
after_arguments (x ∷ xs) g = after_arguments xs (after_argument x g)

abbrev pub after_call : Program → List Passed → Graph → Graph
after_call p args g = after_arguments (arguments p args) g

abbrev pub takes_from : Method → ℕ
takes_from callee = length callee.params + (if callee.is_static then 0 else 1)

abbrev pub given_result : Program → Option Ty → Graph → Graph
given_result p None g = g
given_result p (Some ty) g = given (kind_of p ty) g

-- the argument rules, with the graph that is left
abbrev pub passes_with : Program → List Passed → (g left : Graph) → Deed
passes_with p args g left = record (plain left) {
  not_free = list_any (is_not_free p g) args;
  shared = any_two (shares p g) args;
  mixed = list_any (is_mixed p) args;
  not_cuttable = list_any (is_not_cuttable p g) args;
}

abbrev pub calls_with : Program → Method → List Passed → Graph → Deed
calls_with p callee args g = passes_with p args g (given_result p callee.result (popped (takes_from callee) (after_call p args g)))

-- ---- where a call raises: its arguments are taken, and an object is alone on the stack, which names no node

abbrev pub handler_graph : Graph → Graph
handler_graph g = record g { stack = None ∷ [] }

-- the argument rules alone
abbrev pub raises_with : Program → List Passed → Graph → Deed
raises_with p args g = passes_with p args g (handler_graph (after_call p args g))

abbrev pub call_raises : Program → Graph → (types : List VType) → Option Method → Deed
call_raises p g ts None = plain (handler_graph g)
call_raises p g ts (Some callee) = raises_with p (all_passed callee g ts) g

-- ---- a call

abbrev pub calls : Program → Graph → (types : List VType) → Option Method → Deed
calls p g ts None = plain g
calls p g ts (Some callee) = calls_with p callee (all_passed callee g ts) g
