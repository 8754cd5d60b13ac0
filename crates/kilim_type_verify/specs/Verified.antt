-- What verifying a program answers.
use Rattle.std.specs.Prelude.{◌≡◌, Some, None, Result, Ok, Err}
use Rattle.kilim_program.specs.Program.{Program}
use Rattle.kilim_type_spec.specs.Typed.{IsWellTyped, listed_frames}
use Rattle.kilim_type_spec.specs.Faults.{first_type_fault}
use Rattle.kilim_type_spec.specs.TypedProgram.{TypedProgram}
use Rattle.kilim_type_verify.specs.declared.programs.TypeFault.{TypeFault}
use Rattle.kilim_type_verify.specs.declared.programs.TypeFault.TheVariants.{Rule, Memory}
use Rattle.kilim_type_verify.specs.declared.programs.Methods.{Methods}
use Rattle.kilim_type_verify.specs.declared.programs.Methods.TheVariants.{Frames, Fault}

abbrev pub MethodsWalked : Program → Methods → Type 0
MethodsWalked p (Frames fs) = (first_type_fault p ≡ None) × (fs.items ≡ listed_frames p)
MethodsWalked p (Fault id at rule) = first_type_fault p ≡ Some (id, at, rule)

-- The program unchanged: well typed, without a fault, with the frames at its places; or with its first fault. Want of memory is free.
abbrev pub IsVerified : Program → Result TypedProgram TypeFault → Type 0
IsVerified p (Ok t) = (t.program ≡ p) × (first_type_fault p ≡ None) × IsWellTyped p × (t.frames ≡ listed_frames p)
IsVerified p (Err (Rule q id at n)) = (q ≡ p) × (first_type_fault p ≡ Some (id, at, n))
IsVerified p (Err Memory) = Unit {0}
