-- Where no rule of pausing is broken, a program can be woven.
use Rattle.std.specs.Prelude.{◌≡◌, false, [], Some}
use Rattle.kilim_program.specs.declared.class.Method.{Method}
use Rattle.kilim_program.specs.declared.names.MethodId.{MethodId}
use Rattle.kilim_program.specs.Keeps.{Keeps}
use Rattle.kilim_program.specs.Names.{method_at}
use Rattle.kilim_isolation.specs.Faults.{IsAccepted}
use Rattle.kilim_isolation_pauses.specs.Pausing.{has_free_receiver, pausing_reports}
use Rattle.kilim_type_spec.specs.TypedProgram.{KeepsTyped, TypedProgram}
use Rattle.kilim_weave_laws.specs.woven_programs.Law.{KeepsPauses}

-- A typed program of which none of the rules 8, 10 and 11 is reported, keeps the rules of pausing that the types of its woven form
-- rest on.
abbrev pub PausesAreKept : Type 0
PausesAreKept = (t : TypedProgram) → Keeps t.program → KeepsTyped t → pausing_reports t ≡ [] → KeepsPauses t.program

-- So does one of which no rule is reported.
abbrev pub AcceptedKeepsPauses : Type 0
AcceptedKeepsPauses = (t : TypedProgram) → Keeps t.program → KeepsTyped t → IsAccepted t → KeepsPauses t.program

-- And no pausable method of such a program has a receiver that it may give away.
abbrev pub ReceiversAreHeld : Type 0
ReceiversAreHeld = (t : TypedProgram) → Keeps t.program → KeepsTyped t → IsAccepted t → (id : MethodId) (m : Method) → method_at t.program id ≡ Some m → has_free_receiver m ≡ false
