-- What overriding methods of a woven program keep.
use Rattle.std.specs.Prelude.{◌≡◌, Bool, true, List}
use Rattle.kilim_program.specs.declared.class.Form.TheVariants.{Plain}
use Rattle.kilim_program.specs.Keeps.{Keeps, none_is_left_abstract, overriding_agrees}
use Rattle.kilim_program.specs.Program.{Program}
use Rattle.kilim_weave_spec.specs.Form.{WovenForm}

-- An overriding method agrees with what it overrides, and no class that isn't abstract is left with an abstract method.
pub record SelectsKeep (w : Program) : Type 0 where
  pub overriding : overriding_agrees w ≡ true
  pub abstract_left : none_is_left_abstract w ≡ true

abbrev pub WovenSelectsKeep : Type 0
WovenSelectsKeep = (p w : Program) (counted : List (List Bool)) → Keeps p → p.form ≡ Plain → WovenForm p w counted → SelectsKeep w
