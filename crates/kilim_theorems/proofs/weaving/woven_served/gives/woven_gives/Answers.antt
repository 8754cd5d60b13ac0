use Rattle.kilim_fiber_laws.proofs.woven_served.gives.Gives.{woven_gives}
use Rattle.kilim_theorems.proofs.weaving.woven_served.gives.woven_gives.Goals as goal

pub returns : goal.returns
returns c = woven_gives
