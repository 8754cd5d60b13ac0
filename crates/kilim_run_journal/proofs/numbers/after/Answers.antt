use Rattle.std.proofs.lemmas.Bool.Decides.{Decides-eqb}
use Rattle.std.proofs.lemmas.Slice.Eq.{strip_prefix_is}
use Rattle.kilim_run_journal.proofs.Readings.{stripped, stripped_is}
use Rattle.kilim_run_journal.proofs.numbers.after.Goals as goal

pub returns-clause-right : goal.returns-clause-right
returns-clause-right c = stripped _ _ _ (strip_prefix_is Decides-eqb _ _ _ c.strip_prefix.ensures.cases)

pub returns-clause-some : goal.returns-clause-some
returns-clause-some c = stripped_is _ _ _ (strip_prefix_is Decides-eqb _ _ _ c.strip_prefix.ensures.cases)
