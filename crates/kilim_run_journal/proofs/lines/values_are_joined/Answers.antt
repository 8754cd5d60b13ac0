use Rattle.kilim_run_journal.proofs.Joined.{values_are_joined}
use Rattle.kilim_run_journal.proofs.lines.values_are_joined.Goals as goal

pub returns : goal.returns
returns c = values_are_joined
