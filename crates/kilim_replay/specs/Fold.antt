-- The entries of a journal, one after the other.
use Rattle.std.specs.Prelude.{◌≡◌, ◌≢◌, ◌+◌, ◌==◌, ℕ, Bool, true, false, List, ◌∷◌, ◌++◌, Option, Some, None, length, slice_get}
use Rattle.kilim_run_state.specs.declared.cause.EndCause.{EndCause}
use Rattle.kilim_run_journal.specs.declared.entry.Entry.{Entry}
use Rattle.kilim_run_journal.specs.Readable.{is_readable_act}
use Rattle.kilim_run_model.specs.State.{Setting, State, Ended, first_state, is_full}
use Rattle.kilim_run_model.specs.Runs.{Replays, acted_within, before_action}
use Rattle.kilim_replay_laws.specs.Verdicts.{FaultAt, is_waiting}
use Rattle.kilim_replay_laws.specs.declared.verdict.Verdict.{Verdict}
use Rattle.kilim_replay_laws.specs.declared.verdict.Verdict.TheVariants as verdict
use Rattle.kilim_replay_thread.specs.declared.task.Came.{Came}
use Rattle.kilim_replay_thread.specs.declared.task.Came.TheVariants as came
use Rattle.kilim_replay.specs.Machine.{IsAt}
use Rattle.kilim_replay.specs.Mailboxes.{mail_of}
use Rattle.kilim_replay.specs.declared.fold.Step.{Step}
use Rattle.kilim_replay.specs.declared.fold.Step.TheVariants as step
use Rattle.kilim_replay.specs.declared.machine.Machine.{Machine}
use Rattle.kilim_replay.specs.declared.mailboxes.Mailboxes.{Mailboxes}

-- a task that comes to a `get` on an empty mailbox has to wait, or to a put that waits on a full one
abbrev pub waits_with : Mailboxes → Came → Bool
waits_with boxes (came.Takes box) = length (mail_of boxes box).queue == 0
waits_with boxes (came.PutsWaiting box root shape) = is_full (mail_of boxes box)
waits_with boxes c = false

-- the entry is the next action of its task, and leads to a state
pub record HasMade (set : Setting) (s : State) (e : Entry) (m : Machine) : Type 0 where
  pub moves : ℕ
  pub after : State
  pub acts : acted_within set moves s e.task ≡ Some (e.act, after)
  pub at : IsAt set m after

abbrev pub HasStepped : Setting → State → Entry → Machine → Step → Type 0
HasStepped set s e m step.Same = HasMade set s e m
HasStepped set s e m step.Absent = slice_get s.threads e.task ≡ None
HasStepped set s e m step.Ended = (why : EndCause) × (slice_get s.threads e.task ≡ Some (Ended why))
HasStepped set s e m step.Waits = (k : ℕ) × (is_waiting set (before_action set k s e.task) e.task ≡ true)
HasStepped set s e m (step.Made act) = (act ≢ e.act) × (is_readable_act act ≡ true) × ((k : ℕ) × (mid : State) × (acted_within set k s e.task ≡ Some (act, mid)))

-- what is said of a line where something is wrong
abbrev pub IsStoppedBy : Step → ℕ → ℕ → Option Verdict → Type 0
IsStoppedBy step.Same line task v = v ≡ None
IsStoppedBy step.Absent line task v = v ≡ Some (verdict.Absent line)
IsStoppedBy step.Ended line task v = v ≡ Some (verdict.Ended line)
IsStoppedBy step.Waits line task v = v ≡ Some (verdict.Waits line)
IsStoppedBy (step.Made act) line task v = v ≡ Some (verdict.Made line (record { task = task; act = act }))

-- what is told of another entry can be written
abbrev pub IsReadableVerdict : Verdict → Type 0
IsReadableVerdict (verdict.Made n own) = is_readable_act own.act ≡ true
IsReadableVerdict v = Unit {0}

-- the entries before the first one that isn't replayed, which is wrong in the state to which they lead
pub record StopsIn (set : Setting) (entries : List Entry) (v : Verdict) : Type 0 where
  pub before : List Entry
  pub entry : Entry
  pub behind : List Entry
  pub parts : entries ≡ before ++ entry ∷ behind
  pub last : State
  pub replays : Replays set (first_state set) before last
  pub fault : FaultAt set last entry (length before + 1) v
  pub readable : IsReadableVerdict v

-- all are replayed
pub record IsReplayed (set : Setting) (entries : List Entry) (m : Machine) : Type 0 where
  pub last : State
  pub replays : Replays set (first_state set) entries last
  pub at : IsAt set m last

abbrev pub HasFolded : Setting → List Entry → Machine → Option Verdict → Type 0
HasFolded set entries m None = IsReplayed set entries m
HasFolded set entries m (Some v) = StopsIn set entries v
