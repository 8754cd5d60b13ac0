use Rattle.kilim_isolation_laws.proofs.states.State.{states_give}
use Rattle.kilim_isolation_laws.proofs.states.states_give.Goals as goal

pub returns : goal.returns
returns c = states_give
