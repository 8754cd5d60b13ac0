use Rattle.std.proofs.Common.{◌≡◌, ℕ, ◌<◌, get_or, true}
use Rattle.kilim_run_journal.specs.Fronts.{is_number_unit}
use Rattle.kilim_run_journal.proofs.numbers.number_end.Given as goal

abbrev pub invariant-loop-i : goal.invariant-loop-i
invariant-loop-i l = (k : ℕ) → k < l.i → is_number_unit (get_or l.bytes k 0) ≡ true
