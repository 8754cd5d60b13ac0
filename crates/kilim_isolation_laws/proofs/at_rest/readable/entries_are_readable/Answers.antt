use Rattle.kilim_isolation_laws.proofs.at_rest.readable.Runs.{entries_readable}
use Rattle.kilim_isolation_laws.proofs.at_rest.readable.entries_are_readable.Goals as goal

pub returns : goal.returns
returns c = entries_readable
