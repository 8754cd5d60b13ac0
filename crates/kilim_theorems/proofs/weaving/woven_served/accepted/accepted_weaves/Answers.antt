use Rattle.kilim_fiber_laws.proofs.woven_served.accepted.Along.{accepted_weaves}
use Rattle.kilim_theorems.proofs.weaving.woven_served.accepted.accepted_weaves.Goals as goal

pub returns : goal.returns
returns c = accepted_weaves
