use Rattle.kilim_fiber_laws.proofs.simulation.beginnings.Along.{beginnings_serve}
use Rattle.kilim_theorems.proofs.weaving.simulation.beginnings.beginnings_serve.Goals as goal

pub returns : goal.returns
returns c = beginnings_serve
