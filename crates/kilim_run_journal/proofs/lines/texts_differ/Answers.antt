use Rattle.kilim_run_journal.proofs.Journals.{has_one_journal}
use Rattle.kilim_run_journal.proofs.lines.texts_differ.Goals as goal

pub returns : goal.returns
returns c = has_one_journal
