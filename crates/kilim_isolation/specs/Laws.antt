-- What it means for runs that a program is accepted: along every path of a method the graph goes on.
use Rattle.std.specs.Prelude.{◌≡◌, ℕ, List, Option, Some, Ok, slice_get, true}
use Rattle.kilim_program.specs.declared.class.Method.{Method}
use Rattle.kilim_program.specs.declared.names.MethodId.{MethodId}
use Rattle.kilim_program.specs.declared.verified.Frame.{Frame}
use Rattle.kilim_program.specs.Names.{method_at}
use Rattle.kilim_program.specs.Program.{Program}
use Rattle.kilim_type_spec.specs.Typed.{has_code}
use Rattle.kilim_type_spec.specs.TypedProgram.{TypedProgram}
use Rattle.kilim_isolation_paths.specs.declared.machine.Exit.{Exit}
use Rattle.kilim_isolation_paths.specs.Paths.{Has, Reaches, IsCrowded}
use Rattle.kilim_isolation_graph.specs.declared.graph.Graph.{Graph}
use Rattle.kilim_isolation_pauses.specs.Pausing.{all_methods, frames_at}
use Rattle.kilim_isolation.specs.Faults.{IsAccepted}
use Rattle.kilim_isolation.specs.Walks.{entry_graph, exits_at, machine_of, step}

-- the method begins with a graph, every graph that is reached goes on along each exit, and no place is crowded
pub record GoesOn (p : Program) (m : Method) (fs : List Frame) : Type 0 where
  pub first : Graph
  pub begins : entry_graph p m ≡ Ok first
  pub goes : (at : ℕ) (g : Graph) (to : Exit) → Reaches (machine_of p m fs first) at g → Has (exits_at m at) to → (next : Graph) × (step p m fs at g to ≡ Ok next)
  pub few : (at : ℕ) → IsCrowded (machine_of p m fs first) at → ⊥

abbrev pub AcceptedGoesOn : Type 0
AcceptedGoesOn =
    (t : TypedProgram) (k : ℕ) (id : MethodId) (m : Method) → IsAccepted t → slice_get (all_methods t.program) k ≡ Some id → method_at t.program id ≡ Some m → has_code m ≡ true → GoesOn t.program m (frames_at t id)
