use Rattle.std.proofs.Common.{drop}
use Rattle.kilim_run_journal.specs.Readable.{JournalFits}
use Rattle.kilim_run_journal.proofs.fits.journal_fits.Given as goal

-- where the rest fits, all does
abbrev pub invariant-loop-entry : goal.invariant-loop-entry
invariant-loop-entry l = JournalFits (drop l.entry-index l.fn.entries) → JournalFits l.fn.entries
