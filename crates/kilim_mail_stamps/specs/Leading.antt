-- What a merged journal leads to: the tasks' own entries, and what their mailboxes hold.
use Rattle.std.specs.Prelude.{◌≡◌, ℕ, List, [], ◌∷◌, Some, length, slice_get, filter}
use Rattle.kilim_program.specs.declared.names.BoxName.{BoxName}
use Rattle.kilim_run_state.specs.declared.value.Token.{Token}
use Rattle.kilim_run_journal.specs.declared.entry.Entry.{Entry}
use Rattle.kilim_run_model.specs.State.{Setting, Mailbox, empty_mailbox}
use Rattle.kilim_run_model.specs.Moving.{Moving, MovedReplay}
use Rattle.kilim_mail_stamps.specs.declared.stamped.Stamped.{Stamped}
use Rattle.kilim_mail_stamps.specs.Stamps.{entries_of, Merged, is_on, mail_after, Birth, births_in, course_in, StampedRun}

-- the mailbox after these entries
abbrev pub RunsTo : Mailbox (List Token) → List Stamped → Mailbox (List Token) → Type 0
RunsTo m [] last = m ≡ last
RunsTo m (s ∷ ss) last = (next : Mailbox (List Token)) × (mail_after m s.entry.act ≡ Some next) × RunsTo next ss last

pub record Leads (set : Setting) (parts : List (List Stamped)) (journal : List Entry) : Type 0 where
  pub state : Moving
  pub replay : MovedReplay set journal state
  pub tasks : length state.books.courses ≡ length (births_in (entries_of parts))
  pub courses : (t : ℕ) (b : Birth) → slice_get (births_in (entries_of parts)) t ≡ Some b → slice_get state.books.courses t ≡ Some (course_in (entries_of parts) t b)
  pub mailboxes : (box : BoxName) → RunsTo empty_mailbox (filter (is_on box) (entries_of parts)) (state.books.mailboxes box)

abbrev pub MergedLeads : Type 0
MergedLeads = (set : Setting) (parts : List (List Stamped)) (journal : List Entry) → StampedRun set parts → Merged journal parts → Leads set parts journal
