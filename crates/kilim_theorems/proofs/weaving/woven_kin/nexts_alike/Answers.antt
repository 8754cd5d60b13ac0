use Rattle.kilim_fiber_laws.proofs.woven_kin.Following.{next_kin}
use Rattle.kilim_theorems.proofs.weaving.woven_kin.nexts_alike.Goals as goal

pub returns : goal.returns
returns c = λ set W marks t l f like whole free. next_kin set W marks t l f like whole free
