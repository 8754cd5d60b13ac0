-- What holds of each journal that can be replayed with messages that move.
use Rattle.std.specs.Prelude.{List}
use Rattle.kilim_program.specs.declared.names.BoxName.{BoxName}
use Rattle.kilim_run_journal.specs.declared.entry.Entry.{Entry}
use Rattle.kilim_run_model.specs.State.{Setting}
use Rattle.kilim_run_model.specs.Moving.{Moving, MovedReplay}
use Rattle.kilim_run_board.specs.NewBounds.{BoundsAreNew}
use Rattle.kilim_run_board.specs.OneThread.{AreOneThread, notes_of}

-- each mailbox is one thread of messages, where mailboxes that get a bound are new
abbrev pub MailboxesAreThreads : Type 0
MailboxesAreThreads = (setting : Setting) (journal : List Entry) (s : Moving) (box : BoxName) → BoundsAreNew setting → MovedReplay setting journal s → AreOneThread (notes_of box journal)
