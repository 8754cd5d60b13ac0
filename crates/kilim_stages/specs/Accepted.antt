-- Which programs are well typed, and which are accepted: no rule of typing is broken, and no rule of isolation or pausing.
use Rattle.std.specs.Prelude.{◌≡◌, ℕ, List, None}
use Rattle.kilim_program.specs.Program.{Program}
use Rattle.kilim_type_spec.specs.Typed.{listed_frames}
use Rattle.kilim_type_spec.specs.Faults.{first_type_fault}
use Rattle.kilim_type_spec.specs.TypedProgram.{TypedProgram}
use Rattle.kilim_isolation.specs.Faults.{IsAccepted}
use Rattle.kilim_stages.specs.ProgramOf.{IsProgramOf}

-- the program with the frames of verification at its places
abbrev pub typed_of : Program → TypedProgram
typed_of p = record { program = p; frames = listed_frames p }

pub record Accepts (p : Program) : Type 0 where
  pub typed : first_type_fault p ≡ None
  pub isolated : IsAccepted (typed_of p)

-- the class files with these bytes link to this program, which is well typed
pub record IsTypedOf (files : List (List ℕ)) (p : Program) : Type 0 where
  pub of_files : IsProgramOf files p
  pub typed : first_type_fault p ≡ None

-- the class files with these bytes link to this program, which is accepted
pub record IsAcceptedOf (files : List (List ℕ)) (p : Program) : Type 0 where
  pub of_files : IsProgramOf files p
  pub accepts : Accepts p
