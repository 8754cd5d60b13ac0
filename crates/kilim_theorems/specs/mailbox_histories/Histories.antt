-- In the journal of a whole run each mailbox has one history.
use Rattle.std.specs.Prelude.{List}
use Rattle.kilim_program.specs.declared.names.BoxName.{BoxName}
use Rattle.kilim_run_journal.specs.declared.entry.Entry.{Entry}
use Rattle.kilim_run_model.specs.State.{Setting}
use Rattle.kilim_run_model.specs.Runs.{Whole}
use Rattle.kilim_isolation_laws.specs.Laws.{IsRunOfAccepted}
use Rattle.kilim_run_board.specs.OneThread.{AreOneThread, notes_of}

-- Puts are numbered from 0 without a gap, takes too, each behind the put of its number; it was found empty only where there were as many
-- takes as puts; a bound stands before all others, and no more messages wait than it says.
abbrev pub OneHistory : Type 0
OneHistory = (set : Setting) → IsRunOfAccepted set → (journal : List Entry) → Whole set journal → (box : BoxName) → AreOneThread (notes_of box journal)
