use Rattle.std.proofs.Common.{refl}
use Rattle.kilim_fiber_spec.proofs.ends_stay.Goals as goal

pub returns : goal.returns
returns c = λ set W marks over. (refl, refl)
