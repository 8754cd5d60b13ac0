use Rattle.kilim_isolation_laws.proofs.accepted_runs.plain.Plain as plain
use Rattle.kilim_isolation_laws.proofs.accepted_runs.plain.linked_is_plain.Goals as goal

pub returns : goal.returns
returns c = plain.linked_is_plain c.linked_in_parts.ensures c.each_is_named.ensures
