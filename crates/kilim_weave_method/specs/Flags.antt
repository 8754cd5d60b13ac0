-- What the tables of a method are.
use Rattle.std.specs.Prelude.{◌≡◌, ℕ, suc, Bool, false, if◌then◌else◌, List, is_some, get_or, length}
use Rattle.kilim_program.specs.declared.class.Method.{Method}
use Rattle.kilim_program.specs.declared.verified.Frame.{Frame}
use Rattle.kilim_program.specs.Program.{Program}
use Rattle.kilim_program.specs.Same.{argument_slots}
use Rattle.kilim_type_spec.specs.Typed.{frame_in}
use Rattle.kilim_weave_spec.specs.Woven.{fiber_slot}
use Rattle.kilim_weave_method.specs.declared.method.Slots.{Slots}

-- flags tell at which places frames of a list are declared
pub record AreFlags (frames : List (ℕ × Frame)) (flags : List Bool) : Type 0 where
  pub each : (place : ℕ) → get_or flags place false ≡ is_some (frame_in frames place)

-- the locals and numbers that a woven method names
pub record AreSlots (p : Program) (m : Method) (s : Slots) : Type 0 where
  pub arguments : s.arguments ≡ argument_slots m
  pub fiber : s.fiber ≡ fiber_slot m
  pub receiver : s.receiver ≡ suc (fiber_slot m)
  pub member : s.member ≡ length p.methods
  pub class : s.class ≡ length p.classes
