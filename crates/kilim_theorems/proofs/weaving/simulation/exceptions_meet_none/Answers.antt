use Rattle.kilim_fiber_laws.proofs.simulation.Same as simulation
use Rattle.kilim_theorems.proofs.weaving.simulation.exceptions_meet_none.Goals as goal

pub returns : goal.returns
returns c = simulation.exceptions_meet_none
