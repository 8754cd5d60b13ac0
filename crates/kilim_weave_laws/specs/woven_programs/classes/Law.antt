-- What the classes and members of a woven program keep.
use Rattle.std.specs.Prelude.{◌≡◌, Bool, true, List}
use Rattle.kilim_program.specs.declared.class.Form.TheVariants.{Plain}
use Rattle.kilim_program.specs.Keeps.{EndsBuiltIn, Keeps, constants_fit, members_are_owned, names_differ, none_is_named_as_array, own_classes_fit}
use Rattle.kilim_program.specs.Program.{Program}
use Rattle.kilim_weave_spec.specs.Form.{WovenForm}

-- The last classes are the built-in ones in woven form, of the other methods exactly the abstract ones have no code, members are
-- those that name their class as owner, no two have one name, and classes of the files and constants are as they were.
pub record ClassesKeep (w : Program) : Type 0 where
  pub built_in : EndsBuiltIn w
  pub members : members_are_owned w ≡ true
  pub names : names_differ w ≡ true
  pub class_names : none_is_named_as_array w ≡ true
  pub own_classes : own_classes_fit w ≡ true
  pub constants : constants_fit w ≡ true

abbrev pub WovenClassesKeep : Type 0
WovenClassesKeep = (p w : Program) (counted : List (List Bool)) → Keeps p → p.form ≡ Plain → WovenForm p w counted → ClassesKeep w
