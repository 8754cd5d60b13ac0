use Rattle.kilim_fiber_laws.proofs.woven_kin.Fine.{fine_like}
use Rattle.kilim_theorems.proofs.weaving.woven_kin.fine_alike.Goals as goal

pub returns : goal.returns
returns c = λ set W marks l f like whole fine top below e left. fine_like set W marks l f like whole fine top below e left
