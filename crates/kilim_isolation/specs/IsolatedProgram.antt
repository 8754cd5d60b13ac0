-- What contracts see of an isolated program: a typed program that breaks no rule, and its pausable calls.
use Rattle.std.specs.Prelude.{◌≡◌, ℕ, List}
use Rattle.kilim_program.specs.declared.names.MethodId.{MethodId}
use Rattle.kilim_type_spec.specs.TypedProgram.{TypedProgram}
use Rattle.kilim_isolation_pauses.specs.Pausing.{pausable_calls}
use Rattle.kilim_isolation.specs.Faults.{IsAccepted}

pub record IsolatedProgram : Type 0 where
  pub typed : TypedProgram
  pub calls : List (MethodId × ℕ)

-- what its type keeps
pub record KeepsIsolated (i : IsolatedProgram) : Type 0 where
  pub accepted : IsAccepted i.typed
  pub calls : i.calls ≡ pausable_calls i.typed.program
