use Rattle.std.proofs.Common.{◌≡◌, ℕ, ◌<◌, get_or, true}
use Rattle.kilim_run_journal.specs.Fronts.{is_in_word}
use Rattle.kilim_run_journal.proofs.numbers.word_end.Given as goal

abbrev pub invariant-loop-i : goal.invariant-loop-i
invariant-loop-i l = (k : ℕ) → k < l.i → is_in_word (get_or l.bytes k 0) ≡ true
