-- The isolation rules walk over listed frames. What they let pass passes under the types at the places, too.
use Rattle.std.specs.Prelude.{◌≡◌, ℕ, List, Option, Some, Ok, true}
use Rattle.kilim_program.specs.declared.class.Method.{Method}
use Rattle.kilim_program.specs.declared.instr.Instr.{Instr}
use Rattle.kilim_program.specs.declared.names.MethodId.{MethodId}
use Rattle.kilim_program.specs.declared.verified.Frame.{Frame}
use Rattle.kilim_program.specs.Keeps.{Keeps}
use Rattle.kilim_program.specs.Lengths.{fetched, is_code_place}
use Rattle.kilim_program.specs.Names.{method_at}
use Rattle.kilim_program.specs.Program.{Program}
use Rattle.kilim_type_spec.specs.Step.{Types}
use Rattle.kilim_type_spec.specs.Typed.{declared, has_code, listed}
use Rattle.kilim_type_laws.specs.Laws.{typing_at}
use Rattle.kilim_type_spec.specs.TypedProgram.{KeepsTyped, TypedProgram}
use Rattle.kilim_isolation_paths.specs.Paths.{Has, Reaches}
use Rattle.kilim_isolation_graph.specs.declared.graph.Graph.{Graph}
use Rattle.kilim_isolation_graph.specs.Canonical.{canonical_at}
use Rattle.kilim_isolation_rules.specs.Rules.{deed, moves}
use Rattle.kilim_isolation_pauses.specs.Pausing.{frames_at}
use Rattle.kilim_isolation.specs.Faults.{IsAccepted}
use Rattle.kilim_isolation.specs.Laws.{GoesOn}
use Rattle.kilim_isolation.specs.Walks.{declared_to, exits_by, frame_among, machine_of}

-- the frame that is listed for a place shows the types there
abbrev pub FramesAreListed : Type 0
FramesAreListed = (t : TypedProgram) → KeepsTyped t → Keeps t.program → (id : MethodId) (m : Method) → method_at t.program id ≡ Some m → (at : ℕ) → is_code_place m.code at ≡ true → frame_among m.code (frames_at t id) at ≡ Some (listed m (typing_at t.program id at))

-- An instruction at a graph, on the way to an exit: under the types at its place it breaks no rule, and the graph that it leaves
-- comes to the next place in its canonical form.
pub record WalksOn (p : Program) (m : Method) (typing : ℕ → Types) (fs : List Frame) (first : Graph) (at : ℕ) (i : Instr) (g : Graph) (to : Option ℕ) : Type 0 where
  pub moved : moves p m g (typing at) i (declared_to m to) ≡ Ok (deed p m g (typing at) i).graph
  pub comes : (q : ℕ) → to ≡ Some q → Reaches (machine_of p m fs first) q (canonical_at (declared m q) (deed p m g (typing at) i).graph)

abbrev pub WalksByTypes : Type 0
WalksByTypes = (t : TypedProgram) → KeepsTyped t → Keeps t.program → (id : MethodId) (m : Method) → method_at t.program id ≡ Some m → has_code m ≡ true → (goes : GoesOn t.program m (frames_at t id)) →
    (at next : ℕ) (i : Instr) (g : Graph) (to : Option ℕ) → Reaches (machine_of t.program m (frames_at t id) goes.first) at g → fetched m.code m.code_length at ≡ Some (i, next) → Has (exits_by i next) to →
    WalksOn t.program m (typing_at t.program id) (frames_at t id) goes.first at i g to

-- in an accepted program the graphs of every method with code go on along every path
abbrev pub EveryMethodGoes : Type 0
EveryMethodGoes = (t : TypedProgram) → Keeps t.program → IsAccepted t → (id : MethodId) (m : Method) → method_at t.program id ≡ Some m → has_code m ≡ true → GoesOn t.program m (frames_at t id)
