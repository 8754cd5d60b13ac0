use Rattle.kilim_fiber_laws.proofs.woven_served.Constructors.{constructor_is_same}
use Rattle.kilim_theorems.proofs.weaving.woven_served.constructor_is_same.Goals as goal

pub returns : goal.returns
returns c = constructor_is_same
