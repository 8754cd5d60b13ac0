-- What the first type fault says: a program without one is well typed, and the other way round.
use Rattle.std.specs.Prelude.{◌≡◌, ℕ, Bool, true, Option, Some, None}
use Rattle.kilim_program.specs.declared.class.Method.{Method}
use Rattle.kilim_program.specs.Lengths.{code_ends}
use Rattle.kilim_program.specs.Program.{Program}
use Rattle.kilim_type_spec.specs.Typed.{has_code, WellTyped}
use Rattle.kilim_type_spec.specs.Faults.{method_fault}

-- a method with code, of which control doesn't go on past the last instruction, is well typed if it has no fault
abbrev pub NoFaultIsWellTyped : Type 0
NoFaultIsWellTyped = (p : Program) (m : Method) → has_code m ≡ true → code_ends m.code ≡ true → method_fault p m ≡ None → WellTyped p m
