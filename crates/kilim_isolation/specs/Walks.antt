-- The graphs of a method along its paths (own, after Srinivasan and Mycroft, 2008).
use Rattle.std.specs.Prelude.{ℕ, Bool, true, false, not, ◌&&◌, ◌==◌, if◌then◌else◌, List, [], ◌∷◌, ◌++◌, Option, Some, None, Result, Ok, Err, map}
use Rattle.std.specs.List.{list_all}
use Rattle.kilim_program.specs.declared.class.Handler.{Handler}
use Rattle.kilim_program.specs.declared.class.Method.{Method}
use Rattle.kilim_program.specs.declared.instr.Instr.{Instr}
use Rattle.kilim_program.specs.declared.instr.Instr.TheVariants.{Athrow}
use Rattle.kilim_program.specs.declared.verified.Frame.{Frame}
use Rattle.kilim_program.specs.Keeps.{code_is_whole}
use Rattle.kilim_program.specs.Lengths.{fetched, is_code_place}
use Rattle.kilim_program.specs.Program.{Program}
use Rattle.kilim_type_spec.specs.Step.{Types, rule}
use Rattle.kilim_type_spec.specs.Typed.{covers, frame_types, no_types, declared, entry, edges}
use Rattle.kilim_isolation_paths.specs.declared.machine.Exit.{Exit}
use Rattle.kilim_isolation_paths.specs.declared.machine.Exit.TheVariants as exit
use Rattle.kilim_isolation_paths.specs.Paths.{Machine, target}
use Rattle.kilim_isolation_graph.specs.declared.graph.Graph.{Graph}
use Rattle.kilim_isolation_graph.specs.Canonical.{canonical_at}
use Rattle.kilim_isolation_graph.specs.Entry.{entry_nodes}
use Rattle.kilim_isolation_rules.specs.Marks.{flow_mixes}
use Rattle.kilim_isolation_rules.specs.Rules.{moves, to_handler}

-- ---- the verified frame at a place

abbrev pub frame_among : List (ℕ × Instr) → List Frame → ℕ → Option Frame
frame_among [] fs at = None
frame_among (e ∷ es) [] at = None
frame_among (e ∷ es) (f ∷ fs) at = if e.0 == at then Some f else frame_among es fs at

abbrev pub types_of : Option Frame → Types
types_of None = no_types
types_of (Some frame) = frame_types frame

abbrev pub types_at : Method → List Frame → ℕ → Types
types_at m fs at = types_of (frame_among m.code fs at)

-- ---- the graph with which a method begins

-- the types that flow into a frame that is declared at place 0; a constructor's receiver isn't initialized, and no tree
abbrev pub entry_mixes : Program → Method → Option Types → Bool
entry_mixes p m None = false
entry_mixes p m (Some d) = flow_mixes p (entry m) d

-- the rule 6 where a tree parameter becomes private in the frame declared at place 0
abbrev pub entry_graph : Program → Method → Result Graph ℕ
entry_graph p m = rule 6 (not (entry_mixes p m (declared m 0))) (Ok (canonical_at (declared m 0) (entry_nodes p m)))

-- ---- steps

-- a return has the one exit None, which leads out
abbrev pub exits_to : List ℕ → List (Option ℕ)
exits_to [] = None ∷ []
exits_to (to ∷ tos) = Some to ∷ map Some tos

-- `athrow` is never done: it leads to handlers alone
abbrev pub is_throw : Instr → Bool
is_throw Athrow = true
is_throw i = false

abbrev pub exits_by : Instr → (next : ℕ) → List (Option ℕ)
exits_by i next = if is_throw i then [] else exits_to (edges i next)

abbrev pub exits_of : Option (Instr × ℕ) → List (Option ℕ)
exits_of None = []
exits_of (Some found) = exits_by found.0 found.1

-- a place in the range of a handler leads to the handler as well
abbrev pub handled_at : List Handler → ℕ → List Exit
handled_at [] at = []
handled_at (h ∷ hs) at = if covers h at then exit.Handler h.at ∷ handled_at hs at else handled_at hs at

abbrev pub exits_at : Method → ℕ → List Exit
exits_at m at = map exit.To (exits_of (fetched m.code m.code_length at)) ++ handled_at m.handlers at

-- the code is whole, and each handler is the place of an instruction
abbrev pub is_walkable : Method → Bool
is_walkable m = code_is_whole m && list_all (λ (h : Handler). is_code_place m.code h.at) m.handlers

abbrev pub declared_to : Method → Option ℕ → Option Types
declared_to m None = None
declared_to m (Some to) = declared m to

abbrev pub canonical_of : Option Types → Result Graph ℕ → Result Graph ℕ
canonical_of after (Ok g) = Ok (canonical_at after g)
canonical_of after (Err n) = Err n

-- what an instruction makes of a graph towards an exit; `after` is the frame that is declared where it leads
abbrev pub left_towards : Program → Method → Graph → Types → Instr → Exit → Option Types → Result Graph ℕ
left_towards p m g f i (exit.To to) after = moves p m g f i after
left_towards p m g f i (exit.Handler at) after = to_handler p g f i after

-- the instruction at a place, on the way to an exit: the graph there in its canonical form, or the least rule that is broken
abbrev pub step_by : Program → Method → List Frame → ℕ → Graph → Exit → Option (Instr × ℕ) → Result Graph ℕ
step_by p m fs at g x None = Err 0
step_by p m fs at g x (Some found) = canonical_of (declared_to m (target x)) (left_towards p m g (types_at m fs at) found.0 x (declared_to m (target x)))

unfoldable pub step : Program → Method → List Frame → ℕ → Graph → Exit → Result Graph ℕ
step p m fs at g x = step_by p m fs at g x (fetched m.code m.code_length at)

-- the paths of a method that begins with that graph
abbrev pub machine_of : Program → Method → List Frame → Graph → Machine Graph
machine_of p m fs first = record { size = m.code_length; entry = first; exits = exits_at m; moves = step p m fs }
