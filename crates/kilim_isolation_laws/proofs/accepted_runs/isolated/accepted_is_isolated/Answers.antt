use Rattle.kilim_isolation_laws.proofs.accepted_runs.isolated.Isolated.{accepted_is_isolated}
use Rattle.kilim_isolation_laws.proofs.accepted_runs.isolated.accepted_is_isolated.Goals as goal

pub returns : goal.returns
returns c = accepted_is_isolated
