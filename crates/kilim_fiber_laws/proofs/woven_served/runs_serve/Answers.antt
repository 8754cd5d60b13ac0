use Rattle.kilim_fiber_laws.proofs.woven_served.Along.{runs_serve}
use Rattle.kilim_fiber_laws.proofs.woven_served.runs_serve.Goals as goal

pub returns : goal.returns
returns c = runs_serve
