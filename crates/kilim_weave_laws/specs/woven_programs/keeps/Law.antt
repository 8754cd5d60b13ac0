-- What the methods of a woven program keep.
use Rattle.std.specs.Prelude.{◌≡◌, ℕ, ◌≤◌, Bool, true, List, Some}
use Rattle.std.specs.List.{list_all}
use Rattle.kilim_program.specs.declared.class.Form.TheVariants.{Plain}
use Rattle.kilim_program.specs.declared.class.Method.{Method}
use Rattle.kilim_program.specs.declared.names.MethodId.{MethodId}
use Rattle.kilim_program.specs.Handlers.{pauses_bare, table_stands}
use Rattle.kilim_program.specs.Keeps.{Keeps, caught_there, code_is_whole, frames_are_proper, method_is_sound}
use Rattle.kilim_program.specs.Lengths.{places_increase}
use Rattle.kilim_program.specs.Names.{method_at}
use Rattle.kilim_program.specs.Program.{Program}
use Rattle.kilim_program.specs.Same.{argument_slots}
use Rattle.kilim_type_spec.specs.Typed.{IsWellTyped}
use Rattle.kilim_weave_spec.specs.Form.{WovenForm, has_calls}
use Rattle.kilim_weave_spec.specs.Weight.{weight}
use Rattle.kilim_weave_laws.specs.woven_programs.Law.{KeepsPauses}

-- the greatest length of code in which each jump of two bytes reaches each place (JVMS 4.9.1)
unfoldable pub reach : ℕ
reach = 32767

-- no method with pausable calls is too long to be woven
abbrev pub NoneIsTooLong : Program → Type 0
NoneIsTooLong p = (id : MethodId) (m : Method) → method_at p id ≡ Some m → m.pausable ≡ true → has_calls p m ≡ true → weight p m ≤ reach

-- no pausable method has so many arguments that the fiber has no place (JVMS 4.3.3)
abbrev pub NoneIsFull : Program → Type 0
NoneIsFull p = (id : MethodId) (m : Method) → method_at p id ≡ Some m → m.pausable ≡ true → argument_slots m ≤ 254

-- Each method's code is whole: lengths are those of instructions, targets are places, and control doesn't go on past the end. None
-- has an exception table. Declared frames stand in order, their objects are classes or arrays, and their longs have both halves. Each
-- method has a qualifier for each parameter and at most 255 argument slots, and no constructor pauses.
pub record MethodsKeep (w : Program) : Type 0 where
  pub code : list_all code_is_whole w.methods ≡ true
  pub frames : list_all (λ m. places_increase m.frames) w.methods ≡ true
  pub frame_types : list_all frames_are_proper w.methods ≡ true
  pub methods : list_all method_is_sound w.methods ≡ true
  pub handlers : list_all table_stands w.methods ≡ true
  pub catches : list_all (caught_there w) w.methods ≡ true
  pub paused : list_all pauses_bare w.methods ≡ true

abbrev pub WovenMethodsKeep : Type 0
WovenMethodsKeep =
    (p w : Program) (counted : List (List Bool)) → Keeps p → p.form ≡ Plain → IsWellTyped p → KeepsPauses p → NoneIsTooLong p → NoneIsFull p → WovenForm p w counted → MethodsKeep w
