use Rattle.kilim_fiber_laws.proofs.woven_served.ready.Executes.{execute_same}
use Rattle.kilim_theorems.proofs.weaving.woven_served.ready.execute_is_same.Goals as goal

pub returns : goal.returns
returns c = λ P W counted keeps plainly form class task. execute_same P W counted keeps plainly form class task
