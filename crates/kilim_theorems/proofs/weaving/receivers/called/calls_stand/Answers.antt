use Rattle.kilim_fiber_laws.proofs.receivers.called.Along.{calls_stand}
use Rattle.kilim_theorems.proofs.weaving.receivers.called.calls_stand.Goals as goal

pub returns : goal.returns
returns c = calls_stand
