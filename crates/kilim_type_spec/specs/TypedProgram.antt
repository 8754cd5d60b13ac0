-- What contracts see of a typed program: a program, and for each method the frames at its instructions, in code order.
use Rattle.std.specs.Prelude.{◌≡◌, List}
use Rattle.kilim_program.specs.declared.verified.Frame.{Frame}
use Rattle.kilim_program.specs.Program.{Program}
use Rattle.kilim_type_spec.specs.Typed.{IsWellTyped, listed_frames}

pub record TypedProgram : Type 0 where
  pub program : Program
  pub frames : List (List Frame)

-- what its type keeps
pub record KeepsTyped (t : TypedProgram) : Type 0 where
  pub typed : IsWellTyped t.program
  pub frames : t.frames ≡ listed_frames t.program
