-- Who waits where all entries are replayed.
use Rattle.std.specs.Prelude.{◌≡◌, ◌≤◌, suc, ℕ, false, true, List, Option, Some, None, length, slice_get}
use Rattle.kilim_program.specs.declared.names.BoxName.{BoxName}
use Rattle.kilim_program.specs.Program.{Program}
use Rattle.kilim_run_state.specs.declared.cause.EndCause.{EndCause}
use Rattle.kilim_run_state.specs.Machine.{Objects}
use Rattle.kilim_run_journal.specs.declared.entry.Entry.{Entry}
use Rattle.kilim_run_model.specs.State.{Setting, State, Thread, Ended}
use Rattle.kilim_run_model.specs.Lone.{Lone, get_at, next_move}
use Rattle.kilim_run_model.specs.declared.waits.Waits.TheVariants as wait
use Rattle.kilim_run_model.specs.Runs.{AtRest, all_at_rest, before_action, is_at_rest, waits_at, waits_from}
use Rattle.kilim_run_model.specs.Course.{Quiet}
use Rattle.kilim_isolation_laws.specs.at_rest.Laws.{is_going}
use Rattle.kilim_replay_laws.specs.Verdicts.{DifferAt, all_settled, first_going}
use Rattle.kilim_replay_laws.specs.shared.Runs.{IsTypedRun}
use Rattle.kilim_replay_thread.specs.Comes.{CanShow}
use Rattle.kilim_replay_thread.specs.Reach.{PutsThere, Shares, WaitsNowhere}
use Rattle.kilim_replay_thread.specs.declared.task.Came.{Came}
use Rattle.kilim_replay_thread.specs.declared.task.Came.TheVariants as came
use Rattle.kilim_replay_thread.specs.declared.task.World.{World}
use Rattle.kilim_replay.specs.Machine.{thread_of}
use Rattle.kilim_replay.specs.Mailboxes.{mail_of}
use Rattle.kilim_replay.specs.declared.machine.Machine.{Machine}
use Rattle.kilim_replay.specs.declared.machine.Task.{Task}
use Rattle.kilim_replay.specs.declared.mailboxes.Mailboxes.{Mailboxes}
use Rattle.kilim_replay.specs.declared.rest.Rested.{Rested}
use Rattle.kilim_replay.specs.declared.rest.Rested.TheVariants as rested
use Rattle.kilim_replay.specs.declared.rest.Settled.{Settled}
use Rattle.kilim_replay.specs.declared.rest.Settled.TheVariants as settled
use Rattle.kilim_replay.specs.declared.rest.Standing.{Standing}
use Rattle.kilim_replay.specs.declared.rest.Standing.TheVariants as standing

-- the task has made all moves before its next action
abbrev pub settled_of : Setting → State → ℕ → State
settled_of set s t = before_action set (suc set.limits.steps) s t

-- ---- where a task stands then

abbrev pub standing_of : Came → Standing
standing_of (came.Takes box) = standing.Takes box
standing_of (came.PutsWaiting box root shape) = standing.Puts box root
standing_of (came.TooLarge box root) = standing.Puts box root
standing_of c = standing.Goes

-- what is told of a thread, whatever the heap holds
abbrev pub Says : Setting → ℕ → Thread → Standing → Type 0
Says set t th standing.Over = (why : EndCause) × (th ≡ Ended why)
Says set t th (standing.Takes box) = (x : Lone) → x.thread ≡ th → get_at (next_move set t x) ≡ Some (wait.Take box)
Says set t th (standing.Puts box root) = PutsThere set th box root
Says set t th standing.Goes = ((why : EndCause) → th ≡ Ended why → ⊥) × WaitsNowhere set t th

-- the thread comes to stand so by moves without an action
pub record HasCome (set : Setting) (t : ℕ) (first : Lone) (w : World) (st : Standing) : Type 0 where
  pub mid : Lone
  pub quiet : Quiet set t first mid
  pub stops : is_going (next_move set t mid) ≡ false
  pub shares : Shares t mid w
  pub says : Says set t mid.thread st

-- what all tasks share is as in that state, and so are the tasks from a number on
pub record ViewsFrom (k : ℕ) (w : World) (tasks : List Task) (boxes : Mailboxes) (s : State) : Type 0 where
  pub heap : s.heap ≡ w.heap
  pub next : s.next ≡ w.next
  -- only task 0 keeps an object
  pub kept : k ≡ 0 → s.kept ≡ w.kept
  pub many : length s.threads ≡ length tasks
  pub threads : (t : ℕ) (task : Task) → k ≤ t → slice_get tasks t ≡ Some task → slice_get s.threads t ≡ Some (thread_of task)
  pub mailboxes : (box : BoxName) → s.mailboxes box ≡ mail_of boxes box

pub record IsFrom (set : Setting) (k : ℕ) (m : Machine) (s : State) : Type 0 where
  pub typed : IsTypedRun set s
  pub views : ViewsFrom k m.world m.tasks.items m.mailboxes s

pub record StandsSo (set : Setting) (s : State) (t : ℕ) (st : Standing) : Type 0 where
  pub thread : Thread
  pub there : slice_get s.threads t ≡ Some thread
  pub says : Says set t thread st

abbrev pub HasSettled : Setting → State → ℕ → Machine → Standing → Type 0
HasSettled set s t m st = IsFrom set (suc t) m (settled_of set s t) × StandsSo set (settled_of set s t) t st

-- each of the first ones stands so
abbrev pub AllStand : Setting → State → List Standing → Type 0
AllStand set s sts = (t : ℕ) (st : Standing) → slice_get sts t ≡ Some st → StandsSo set s t st

-- ---- what it does then

-- a tree that it would put can be looked at
abbrev pub IsShownFor : Program → Objects → Standing → Type 0
IsShownFor p h (standing.Puts box root) = CanShow p h root
IsShownFor p h st = Unit {0}

abbrev pub IsSettled : Setting → State → ℕ → Thread → Settled → Type 0
IsSettled set s t th (settled.Waits box) = waits_at set s t th ≡ Some box
IsSettled set s t th settled.Goes = is_at_rest set s t th ≡ false
IsSettled set s t th settled.Over = (why : EndCause) × (th ≡ Ended why)

-- the heap and the mailboxes of that state
pub record IsIn (p : Program) (h : Objects) (boxes : Mailboxes) (set : Setting) (s : State) : Type 0 where
  pub program : set.program ≡ p
  pub heap : s.heap ≡ h
  pub mailboxes : (box : BoxName) → s.mailboxes box ≡ mail_of boxes box

abbrev pub AsksOne : Program → Objects → Mailboxes → Standing → Settled → Type 0
AsksOne p h boxes st x = (set : Setting) (s : State) (t : ℕ) (th : Thread) → IsIn p h boxes set s → Says set t th st → IsSettled set s t th x

abbrev pub RestsSo : Setting → State → Rested → Type 0
RestsSo set s (rested.Goes t) = first_going set s 0 s.threads ≡ Some t
RestsSo set s (rested.Waits waits) = (all_at_rest set s 0 s.threads ≡ true) × (waits.items ≡ waits_from set s 0 s.threads)

abbrev pub AsksAll : Program → Objects → Mailboxes → List Standing → Rested → Type 0
AsksAll p h boxes sts x = (set : Setting) (s : State) → IsIn p h boxes set s → AllStand set s sts → length s.threads ≡ length sts → RestsSo set s x

abbrev pub HasRested : Setting → State → Rested → Type 0
HasRested set s (rested.Goes t) = first_going set (all_settled set s) 0 (all_settled set s).threads ≡ Some t
HasRested set s (rested.Waits waits) = AtRest set s waits.items

abbrev pub IsFirstDifference : List Entry → List Entry → Option ℕ → Type 0
IsFirstDifference a b None = a ≡ b
IsFirstDifference a b (Some k) = DifferAt a b k
