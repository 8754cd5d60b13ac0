-- What `weave` answers.
use Rattle.std.specs.Prelude.{◌≡◌, Some, None, Result, Ok, Err}
use Rattle.kilim_program.specs.Program.{Program}
use Rattle.kilim_type_spec.specs.Typed.{IsWellTyped}
use Rattle.kilim_weave_spec.specs.Form.{WovenForm}
use Rattle.kilim_weave_laws.specs.woven_programs.keeps.Law.{NoneIsFull, NoneIsTooLong}
use Rattle.kilim_weave_laws.specs.woven_programs.Law.{EachIsShort, KeepsPauses}
use Rattle.kilim_weave.specs.declared.fault.WeaveFault.{WeaveFault}
use Rattle.kilim_weave.specs.declared.fault.WeaveFault.TheVariants.{TooLong, ArgumentsFull, Memory}
use Rattle.kilim_weave.specs.declared.weaving.Woven.{Woven}
use Rattle.kilim_weave.specs.Faults.{weave_fault}

-- It is the woven form of the program and well typed, and no method's code is longer than its weight. The other facts are of the
-- program: they are what the laws of woven programs ask for.
pub record Weaves (p : Program) (w : Woven) : Type 0 where
  pub form : WovenForm p w.program w.counted
  pub typed : IsWellTyped w.program
  pub short : EachIsShort p w.program
  pub pauses : KeepsPauses p
  pub too_long : NoneIsTooLong p
  pub full : NoneIsFull p

-- woven where no method has a fault, else the first fault; or want of memory
abbrev pub IsWoven : Program → Result Woven WeaveFault → Type 0
IsWoven p (Ok w) = (weave_fault p ≡ None) × Weaves p w
IsWoven p (Err (TooLong id weight)) = weave_fault p ≡ Some (TooLong id weight)
IsWoven p (Err (ArgumentsFull id)) = weave_fault p ≡ Some (ArgumentsFull id)
IsWoven p (Err Memory) = Unit {0}
