use Rattle.kilim_fiber_laws.proofs.Begins.{tasks_end}
use Rattle.kilim_theorems.proofs.weaving.tasks_end.Goals as goal

pub returns : goal.returns
returns c = tasks_end
