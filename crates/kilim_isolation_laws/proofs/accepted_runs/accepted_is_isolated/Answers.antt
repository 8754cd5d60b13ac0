use Rattle.kilim_isolation_laws.proofs.accepted_runs.Runs as runs
use Rattle.kilim_isolation_laws.proofs.accepted_runs.accepted_is_isolated.Goals as goal

pub returns : goal.returns
returns c = runs.isolated c.linked_is_plain.ensures c.mains_begin.ensures c.accepted_is_kept.ensures c.none_shares.ensures
