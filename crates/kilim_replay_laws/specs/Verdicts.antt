-- The verdict of a journal: that it is one of a whole run, or what is wrong with it first.
use Rattle.std.specs.Prelude.{◌≡◌, ◌≢◌, ℕ, suc, ◌+◌, Bool, true, false, if◌then◌else◌, List, [], ◌∷◌, ◌++◌, Option, Some, None, is_some, length, slice_get}
use Rattle.kilim_run_state.specs.declared.cause.EndCause.{EndCause}
use Rattle.kilim_run_journal.specs.declared.entry.Act.{Act}
use Rattle.kilim_run_journal.specs.declared.entry.Act.TheVariants as act
use Rattle.kilim_run_journal.specs.declared.entry.Entry.{Entry}
use Rattle.kilim_run_model.specs.State.{Setting, Thread, Ended, State, first_state}
use Rattle.kilim_run_model.specs.Runs.{acted_within, before_action, Replays, settled, waits_at, is_at_rest, AtRest, Whole}
use Rattle.kilim_replay_laws.specs.declared.verdict.Verdict.{Verdict}
use Rattle.kilim_replay_laws.specs.declared.verdict.Verdict.TheVariants as verdict

-- ---- the entries of a journal, and the lines behind them that say who waits

abbrev pub is_wait : Act → Bool
is_wait (act.Wait box) = true
is_wait a = false

-- those before the first that says who waits, and those from it on
abbrev pub acts_in : List Entry → List Entry
acts_in [] = []
acts_in (e ∷ es) = if is_wait e.act then [] else e ∷ acts_in es

abbrev pub waits_in : List Entry → List Entry
waits_in [] = []
waits_in (e ∷ es) = if is_wait e.act then e ∷ es else waits_in es

-- ---- an entry that isn't what its task does next

abbrev pub is_waiting_thread : Setting → State → ℕ → Option Thread → Bool
is_waiting_thread set s t None = false
is_waiting_thread set s t (Some thread) = is_some (waits_at set s t thread)

-- the task stands where it has to wait
abbrev pub is_waiting : Setting → State → ℕ → Bool
is_waiting set s t = is_waiting_thread set s t (slice_get s.threads t)

-- what is wrong with the entry of that line in that state
abbrev pub FaultAt : Setting → State → Entry → ℕ → Verdict → Type 0
FaultAt set s e n (verdict.Absent m) = (m ≡ n) × (slice_get s.threads e.task ≡ None)
FaultAt set s e n (verdict.Ended m) = (m ≡ n) × (why : EndCause) × (slice_get s.threads e.task ≡ Some (Ended why))
FaultAt set s e n (verdict.Waits m) = (m ≡ n) × (k : ℕ) × (is_waiting set (before_action set k s e.task) e.task ≡ true)
FaultAt set s e n (verdict.Made m own) = (m ≡ n) × (own.task ≡ e.task) × (own.act ≢ e.act) × (k : ℕ) × (mid : State) × (acted_within set k s e.task ≡ Some (own.act, mid))
FaultAt set s e n v = ⊥

-- the entries before the first one that isn't replayed, which is wrong in the state to which they lead
pub record Stops (set : Setting) (journal : List Entry) (v : Verdict) : Type 0 where
  pub before : List Entry
  pub entry : Entry
  pub behind : List Entry
  pub parts : acts_in journal ≡ before ++ entry ∷ behind
  pub last : State
  pub replays : Replays set (first_state set) before last
  pub fault : FaultAt set last entry (length before + 1) v

-- ---- all entries are replayed

-- the least task, from t on, that isn't at rest
abbrev pub first_going : Setting → State → ℕ → List Thread → Option ℕ
first_going set s t [] = None
first_going set s t (thread ∷ threads) = if is_at_rest set s t thread then first_going set s (t + 1) threads else Some t

-- each thread has come to its next action, or to where it waits: one move more than it may do instructions is enough
abbrev pub all_settled : Setting → State → State
all_settled set s = settled set (suc set.limits.steps) s

pub record GoesOn (set : Setting) (journal : List Entry) (n t : ℕ) : Type 0 where
  pub last : State
  pub replays : Replays set (first_state set) (acts_in journal) last
  pub number : n ≡ length (acts_in journal) + 1
  pub going : first_going set (all_settled set last) 0 (all_settled set last).threads ≡ Some t

abbrev pub first_entry : List Entry → Option Entry
first_entry [] = None
first_entry (e ∷ es) = Some e

-- how many entries two lists have in common in front; then they differ, or one of them ends
pub record DifferAt (a b : List Entry) (k : ℕ) : Type 0 where
  pub common : List Entry
  pub mine : List Entry
  pub other : List Entry
  pub here : a ≡ common ++ mine
  pub there : b ≡ common ++ other
  pub differ : first_entry mine ≢ first_entry other
  pub number : k ≡ length common

pub record RestsBut (set : Setting) (journal : List Entry) (n : ℕ) : Type 0 where
  pub last : State
  pub replays : Replays set (first_state set) (acts_in journal) last
  pub waits : List Entry
  pub at_rest : AtRest set last waits
  pub common : ℕ
  pub differ : DifferAt (waits_in journal) waits common
  pub number : n ≡ length (acts_in journal) + common + 1

-- ---- the verdict

abbrev pub IsVerdict : Setting → List Entry → Verdict → Type 0
IsVerdict set journal verdict.Whole = Whole set journal
IsVerdict set journal (verdict.Goes n t) = GoesOn set journal n t
IsVerdict set journal (verdict.Rest n) = RestsBut set journal n
IsVerdict set journal v = Stops set journal v

-- of a journal there is one verdict
abbrev pub OneVerdict : Type 0
OneVerdict = (set : Setting) (journal : List Entry) (v w : Verdict) → IsVerdict set journal v → IsVerdict set journal w → v ≡ w
