-- The close of a run by several turns: each task has ended, or waits at a mailbox, to take where it is empty, or to put where it is full.
use Rattle.std.specs.Prelude.{◌≡◌, ℕ, zero, suc, true, false, List, [], ◌++◌, Option, Some, None, length, filter}
use Rattle.std.specs.List.{AllByRecursion}
use Rattle.kilim_program.specs.declared.names.BoxName.{BoxName}
use Rattle.kilim_run_state.specs.declared.value.Token.{Token}
use Rattle.kilim_run_journal.specs.declared.entry.Entry.{Entry}
use Rattle.kilim_run_model.specs.State.{Setting, Mailbox, empty_mailbox, is_full}
use Rattle.kilim_run_model.specs.Lone.{Lone}
use Rattle.kilim_run_model.specs.Runs.{wait_entry}
use Rattle.kilim_run_model.specs.Course.{IsLone, has_ended, stands_at}
use Rattle.kilim_run_model.specs.declared.waits.Waits.{Waits}
use Rattle.kilim_run_model.specs.declared.waits.Waits.TheVariants as wait
use Rattle.kilim_run_board.specs.Board.{box_of}
use Rattle.kilim_run_model.specs.Moving.{Moving, MovedReplay, MovedAtRest}
use Rattle.kilim_mail_stamps.specs.declared.stamped.Stamped.{Stamped}
use Rattle.kilim_mail_stamps.specs.Stamps.{joined, Merged, is_on}
use Rattle.kilim_mail_ledger.specs.Ledger.{Trace, trace_course, Balanced}
use Rattle.kilim_mail_stamps.specs.Leading.{RunsTo}

-- who waits for this finds the mailbox so
abbrev pub HasToWait : Waits → Mailbox (List Token) → Type 0
HasToWait (wait.Take box) mail = mail.queue ≡ []
HasToWait (wait.Put box) mail = is_full mail ≡ true

-- its thread stands where it waits for this, and the mailbox's entries leave the mailbox so
pub record StandsWaiting (set : Setting) (parts : List (List Stamped)) (trace : Trace) (waits : Waits) : Type 0 where
  pub stands : (l : Lone) → IsLone set trace.task (trace_course trace) l → stands_at set trace.task l ≡ Some waits
  pub mail : Mailbox (List Token)
  pub run : RunsTo empty_mailbox (filter (is_on (box_of waits)) (joined parts)) mail
  pub has_to : HasToWait waits mail

-- it has ended, or waits there
abbrev pub RestsAs : Setting → List (List Stamped) → Trace → Option Waits → Type 0
RestsAs set parts trace None = has_ended (trace_course trace) ≡ true
RestsAs set parts trace (Some waits) = (has_ended (trace_course trace) ≡ false) × StandsWaiting set parts trace waits

abbrev pub waited_box : Option Waits → Option BoxName
waited_box None = None
waited_box (Some waits) = Some (box_of waits)

-- a `waits` entry for each of so many tasks from t on that waits, by increasing number
abbrev pub closing_by : (ℕ → Option Waits) → ℕ → ℕ → List Entry
closing_by waits t zero = []
closing_by waits t (suc n) = wait_entry t (waited_box (waits t)) ++ closing_by waits (suc t) n

-- Such a run is a journal of the machine whose messages are moved, and at rest, with these tasks that wait.
abbrev pub ClosedRuns : Type 0
ClosedRuns = (set : Setting) (parts : List (List Stamped)) (traces : List Trace) (waits : ℕ → Option Waits) (journal : List Entry) → Balanced set parts traces →
    AllByRecursion (λ (trace : Trace). RestsAs set parts trace (waits trace.task)) traces → Merged journal parts →
    (s : Moving) × MovedReplay set journal s × MovedAtRest set s (closing_by waits 0 (length s.books.courses))
