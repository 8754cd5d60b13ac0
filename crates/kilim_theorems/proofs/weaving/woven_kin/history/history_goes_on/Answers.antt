use Rattle.kilim_fiber_laws.proofs.woven_kin.history.Onward.{history_goes_on}
use Rattle.kilim_theorems.proofs.weaving.woven_kin.history.history_goes_on.Goals as goal

pub returns : goal.returns
returns c = history_goes_on
