use Rattle.kilim_run_journal.specs.Fronts.{is_number_unit}
use Rattle.kilim_run_journal.proofs.Readings.{parted_at}
use Rattle.kilim_run_journal.proofs.numbers.number_text.Goals as goal

pub returns : goal.returns
returns c a x ha hx e = parted_at is_number_unit _ _ _ _ a x c.number_end.ensures.place c.split_at.ensures.front c.split_at.ensures.back ha hx e
