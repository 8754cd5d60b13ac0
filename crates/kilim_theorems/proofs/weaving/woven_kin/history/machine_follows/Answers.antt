use Rattle.kilim_fiber_laws.proofs.woven_kin.history.Steps.{machine_follows}
use Rattle.kilim_theorems.proofs.weaving.woven_kin.history.machine_follows.Goals as goal

pub returns : goal.returns
returns c = machine_follows
