use Rattle.kilim_fiber_laws.proofs.receivers.Along.{receivers_stay}
use Rattle.kilim_theorems.proofs.weaving.receivers.receivers_stay.Goals as goal

pub returns : goal.returns
returns c = receivers_stay
