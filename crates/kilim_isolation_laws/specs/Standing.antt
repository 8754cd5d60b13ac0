-- A thread of an accepted program, with its shape graphs.
use Rattle.std.specs.Prelude.{◌≡◌, ℕ, Option, Some}
use Rattle.kilim_program.specs.declared.class.Method.{Method}
use Rattle.kilim_program.specs.declared.names.ClassId.{ClassId}
use Rattle.kilim_program.specs.declared.names.MethodId.{MethodId}
use Rattle.kilim_program.specs.declared.ty.Qualifier.TheVariants.{Free}
use Rattle.kilim_program.specs.Names.{method_at}
use Rattle.kilim_program.specs.Program.{Program}
use Rattle.kilim_run_state.specs.Machine.{Objects}
use Rattle.kilim_program.specs.Members.{constructor_of}
use Rattle.kilim_run_model.specs.Lone.{Lone}
use Rattle.kilim_run_model.specs.State.{Alive, Ended, Thread}
use Rattle.kilim_isolation_laws.specs.reached_objects.graphs.Threads.{FramesFit, Listed, Typings}

-- The constructor with which a run begins doesn't get its object to give away. (The receiver of a constructor is cuttable, always.)
abbrev pub MainBegins : Program → ClassId → Type 0
MainBegins p main = (id : MethodId) (m : Method) → constructor_of p main ≡ Some id → method_at p id ≡ Some m → m.receiver ≡ Free → ⊥

-- the frames of a thread that hasn't ended
abbrev pub ThreadStands : Program → Typings → Listed → Option ℕ → Objects → Thread → Type 0
ThreadStands p typings listed kept h (Alive frames done boxes) = FramesFit p typings listed kept h frames
ThreadStands p typings listed kept h (Ended cause) = Unit {0}

abbrev pub Standing : Program → Typings → Listed → Lone → Type 0
Standing p typings listed l = ThreadStands p typings listed l.kept l.heap l.thread
