use Rattle.kilim_isolation_laws.proofs.at_rest.readable.Runs.{runs_readable}
use Rattle.kilim_isolation_laws.proofs.at_rest.readable.runs_are_readable.Goals as goal

pub returns : goal.returns
returns c = runs_readable
