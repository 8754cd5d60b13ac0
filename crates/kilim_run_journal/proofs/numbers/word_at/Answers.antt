use Rattle.std.proofs.Common.{drop, refl}
use Rattle.kilim_run_journal.specs.Fronts.{is_in_word}
use Rattle.kilim_run_journal.proofs.Readings.{parted_at}
use Rattle.kilim_run_journal.proofs.numbers.word_at.Goals as goal

pub returns : goal.returns
returns c a x ha hx e = (parted_at is_in_word c.args.bytes.now c.word_end.result _ (drop c.word_end.result c.args.bytes.now) a x c.word_end.ensures.place refl refl ha hx e).0
