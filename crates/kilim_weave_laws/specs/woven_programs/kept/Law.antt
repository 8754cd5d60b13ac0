-- Woven programs keep what every program keeps.
use Rattle.std.specs.Prelude.{◌≡◌, Bool, List}
use Rattle.kilim_program.specs.declared.class.Form.TheVariants.{Plain}
use Rattle.kilim_program.specs.Keeps.{Keeps}
use Rattle.kilim_program.specs.Program.{Program}
use Rattle.kilim_type_spec.specs.Typed.{IsWellTyped}
use Rattle.kilim_weave_spec.specs.Form.{WovenForm}
use Rattle.kilim_weave_laws.specs.woven_programs.Law.{KeepsPauses}
use Rattle.kilim_weave_laws.specs.woven_programs.keeps.Law.{NoneIsFull, NoneIsTooLong}

-- The woven form of a kept, well-typed program, whose pauses keep their rules and of which no method is too long or has too many
-- arguments to be woven, is a kept, well-typed program.
abbrev pub WovenIsKept : Type 0
WovenIsKept =
    (p w : Program) (counted : List (List Bool)) → Keeps p → p.form ≡ Plain → IsWellTyped p → KeepsPauses p → NoneIsTooLong p → NoneIsFull p → WovenForm p w counted → Keeps w × IsWellTyped w
