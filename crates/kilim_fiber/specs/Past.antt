-- The deeds of a fiber.
use Rattle.std.specs.Prelude.{List, [], ◌∷◌, ◌++◌}
use Rattle.kilim_run_journal.specs.declared.entry.Act.TheVariants as act
use Rattle.kilim_run_model.specs.Course.{plain}
use Rattle.kilim_run_model.specs.declared.deed.Deed.{Deed}
use Rattle.kilim_fiber_laws.specs.woven_kin.history.History.{took}
use Rattle.kilim_fiber.specs.declared.past.Did.{Did}
use Rattle.kilim_fiber.specs.declared.past.Did.TheVariants as did
use Rattle.kilim_fiber.specs.declared.past.Past.{Past, Nothing, After'}

abbrev pub deed_of : Did → Deed
deed_of (did.Put box n shape) = plain (act.Put box n shape.value)
deed_of (did.Take box n shape) = took box n shape.value
deed_of (did.Empty box) = plain (act.Empty box)
deed_of (did.Start n shape) = plain (act.Start n shape.value)
deed_of (did.Print shape) = plain (act.Print shape.value)
deed_of (did.Bound box most) = plain (act.Bound box most)

abbrev pub deeds_of : Past → List Deed
deeds_of Nothing = []
deeds_of (After' s past d) = deeds_of past ++ deed_of d ∷ []
