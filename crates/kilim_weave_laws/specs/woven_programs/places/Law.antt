-- The ids and types of a woven program.
use Rattle.std.specs.Prelude.{◌≡◌, Bool, true, List}
use Rattle.kilim_program.specs.declared.class.Form.TheVariants.{Plain}
use Rattle.kilim_program.specs.Keeps.{Keeps, ids_are_places, no_task_arrays}
use Rattle.kilim_program.specs.Program.{Program}
use Rattle.kilim_type_spec.specs.Typed.{IsWellTyped}
use Rattle.kilim_weave_spec.specs.Form.{WovenForm}

-- Each id in it is a place in its list, and no type that stands in it is an array of tasks.
pub record PlacesKeep (w : Program) : Type 0 where
  pub ids : ids_are_places w ≡ true
  pub task_arrays : no_task_arrays w ≡ true

abbrev pub WovenPlacesKeep : Type 0
WovenPlacesKeep = (p w : Program) (counted : List (List Bool)) → Keeps p → p.form ≡ Plain → IsWellTyped p → WovenForm p w counted → PlacesKeep w
