use Rattle.std.proofs.Common.{[], refl}
use Rattle.kilim_run_model.specs.Course.{Stays}
use Rattle.kilim_theorems.proofs.weaving.courses.courses_begin.Goals as goal
use Rattle.kilim_fiber_spec.specs.lone.Law.{lone_at}

pub returns : goal.returns
returns c = λ set b m p l s x below w e. (record { beginning = b; deeds = [] }, lone_at m p l s below w, record { first = lone_at m p l s below w; begins = e; follows = refl }, Stays refl)
