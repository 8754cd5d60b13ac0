-- What the tables of a plan are.
use Rattle.std.specs.Prelude.{◌≡◌, ℕ, Bool, false, List, is_some, get_or, map}
use Rattle.kilim_program.specs.declared.class.Method.{Method}
use Rattle.kilim_program.specs.declared.verified.Frame.{Frame}
use Rattle.kilim_program.specs.Program.{Program}
use Rattle.kilim_type_spec.specs.Typed.{WellTypedBy, declared, frames_of, listed, typing_of}

-- the frames at a method's instructions, in code order, and that it is typed by them
pub record Listed (p : Program) (m : Method) (frames : List Frame) : Type 0 where
  pub typed : WellTypedBy p m (typing_of p m)
  pub are : frames ≡ map (listed m) (frames_of p m)

-- where a frame is declared
pub record AreDeclared (m : Method) (flags : List Bool) : Type 0 where
  pub each : (place : ℕ) → get_or flags place false ≡ is_some (declared m place)
