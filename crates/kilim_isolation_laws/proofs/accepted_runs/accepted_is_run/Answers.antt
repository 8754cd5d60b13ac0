use Rattle.kilim_isolation_laws.proofs.accepted_runs.Runs as runs
use Rattle.kilim_isolation_laws.proofs.accepted_runs.accepted_is_run.Goals as goal

pub returns : goal.returns
returns c = runs.is_run c.linked_is_plain.ensures c.mains_begin.ensures
