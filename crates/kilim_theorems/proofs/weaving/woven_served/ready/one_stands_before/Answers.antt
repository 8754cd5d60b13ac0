use Rattle.kilim_fiber_laws.proofs.woven_served.ready.Places.{one_call}
use Rattle.kilim_theorems.proofs.weaving.woven_served.ready.one_stands_before.Goals as goal

pub returns : goal.returns
returns c = λ P keeps m a b i j to e f. one_call P keeps m a b i j to e f
