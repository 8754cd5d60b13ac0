use Rattle.kilim_fiber_laws.proofs.woven_served.ready.Whole.{tasks_serve}
use Rattle.kilim_theorems.proofs.weaving.woven_served.ready.tasks_serve.Goals as goal

pub returns : goal.returns
returns c = tasks_serve
