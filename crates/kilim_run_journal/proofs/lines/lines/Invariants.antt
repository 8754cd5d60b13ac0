use Rattle.std.proofs.Common.{◌≡◌, take}
use Rattle.kilim_run_journal.specs.Text.{journal_text}
use Rattle.kilim_run_journal.proofs.lines.lines.Given as goal

abbrev pub invariant-loop-entry : goal.invariant-loop-entry
invariant-loop-entry l = l.out.items ≡ journal_text (take l.entry-index l.entries)
