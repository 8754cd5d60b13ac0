-- A state of a replay, as a state of the shared machine.
use Rattle.std.specs.Prelude.{◌≡◌, ◌<◌, ◌+◌, ◌^◌, ◌==◌, ℕ, false, if◌then◌else◌, List, [], ◌∷◌, ◌++◌, Option, Some, None, length, map, slice_set}
use Rattle.std.specs.List.{AllByRecursion}
use Rattle.kilim_program.specs.Program.{Program}
use Rattle.kilim_program.specs.declared.names.BoxName.{BoxName}
use Rattle.kilim_program.specs.declared.value.Value.TheVariants.{Null, Ref}
use Rattle.kilim_run_state.specs.declared.cause.EndCause.{EndCause}
use Rattle.kilim_run_state.specs.declared.cause.EndCause.TheVariants.{Large}
use Rattle.kilim_run_state.specs.declared.value.Token.{Token}
use Rattle.kilim_run_journal.specs.declared.entry.Act.{Act}
use Rattle.kilim_run_journal.specs.declared.entry.Act.TheVariants.{Put, Take, Empty, Start, Print, End, Bound}
use Rattle.kilim_run_model.specs.State.{Setting, State, Thread, Ended, execute_frames, bounded, is_full, with_mailbox, with_message, with_queue}
use Rattle.kilim_run_model.specs.Lone.{Next, Puts, PutWaits, Bounds, Gets, Probes, Starts, Prints, Ends, pushed_on}
use Rattle.kilim_run_model.specs.Turn.{Moved}
use Rattle.kilim_replay_laws.specs.shared.Runs.{IsTypedRun}
use Rattle.kilim_replay_thread.specs.Live.{RoomyIn, behind_at, behind_in, calls_in, ended_at, thread_in}
use Rattle.kilim_replay_thread.specs.declared.task.Came.{Came}
use Rattle.kilim_replay_thread.specs.declared.task.Came.TheVariants as came
use Rattle.kilim_replay_thread.specs.declared.task.Live.{Live as ALive}
use Rattle.kilim_replay_thread.specs.declared.task.World.{World}
use Rattle.kilim_replay.specs.Mailboxes.{SameMails, mail_of}
use Rattle.kilim_replay.specs.declared.machine.Machine.{Machine}
use Rattle.kilim_replay.specs.declared.machine.Task.{Task}
use Rattle.kilim_replay.specs.declared.machine.Task.TheVariants as a_task
use Rattle.kilim_replay.specs.declared.mailboxes.Mailboxes.{Mailboxes}

abbrev pub thread_of : Task → Thread
thread_of (a_task.Live l) = thread_in l
thread_of (a_task.Ended why) = Ended why

-- they are a state of the shared machine, whatever its journal
pub record Views (w : World) (tasks : List Task) (boxes : Mailboxes) (s : State) : Type 0 where
  pub heap : s.heap ≡ w.heap
  pub next : s.next ≡ w.next
  pub kept : s.kept ≡ w.kept
  pub threads : s.threads ≡ map thread_of tasks
  pub mailboxes : (box : BoxName) → s.mailboxes box ≡ mail_of boxes box

-- each stack has room for what its method may have there
abbrev pub IsRoomyTask : Program → Task → Type 0
IsRoomyTask p (a_task.Live l) = RoomyIn p l.frames
IsRoomyTask p (a_task.Ended why) = Unit {0}

abbrev pub AreRoomyTasks : Program → List Task → Type 0
AreRoomyTasks p tasks = AllByRecursion (IsRoomyTask p) tasks

-- ---- an action

-- that task stands so, and the others as they did
pub record StandsAt (t : ℕ) (thread : Thread) (old new : List Task) : Type 0 where
  pub live : ALive
  pub is : new ≡ slice_set old t (a_task.Live live)
  pub behind : thread_in live ≡ thread

-- a message was put
pub record HasPut (t : ℕ) (name : BoxName) (root : ℕ) (shape : List Token) (live : ALive) (old new : Machine) (act : Act) : Type 0 where
  pub world : new.world ≡ old.world
  pub stands : StandsAt t (behind_in live) old.tasks.items new.tasks.items
  pub mails : SameMails (with_mailbox (mail_of old.mailboxes) name (with_message (mail_of old.mailboxes name) root)) (mail_of new.mailboxes)
  pub told : act ≡ Put name (mail_of old.mailboxes name).puts shape

-- a mailbox got a bound
pub record HasBounded (t : ℕ) (name : BoxName) (most : ℕ) (live : ALive) (old new : Machine) (act : Act) : Type 0 where
  pub world : new.world ≡ old.world
  pub stands : StandsAt t (behind_in live) old.tasks.items new.tasks.items
  pub mails : SameMails (with_mailbox (mail_of old.mailboxes) name (bounded (mail_of old.mailboxes name) most)) (mail_of new.mailboxes)
  pub told : act ≡ Bound name most

-- the first message of the mailbox was taken, and is on top of the stack
pub record HasTaken (t : ℕ) (name : BoxName) (live : ALive) (old new : Machine) (act : Act) : Type 0 where
  pub first : ℕ × ℕ
  pub was : (mail_of old.mailboxes name).queue ≡ first ∷ (mail_of new.mailboxes name).queue
  pub world : new.world ≡ old.world
  pub stands : StandsAt t (pushed_on (Ref first.1) (behind_in live)) old.tasks.items new.tasks.items
  pub mails : SameMails (with_mailbox (mail_of old.mailboxes) name (with_queue (mail_of old.mailboxes name) (mail_of new.mailboxes name).queue)) (mail_of new.mailboxes)
  pub told : act ≡ Take name first.0

-- there was none
pub record HasFoundNone (t : ℕ) (name : BoxName) (live : ALive) (old new : Machine) (act : Act) : Type 0 where
  pub none : (mail_of old.mailboxes name).queue ≡ []
  pub world : new.world ≡ old.world
  pub stands : StandsAt t (pushed_on Null (behind_in live)) old.tasks.items new.tasks.items
  pub mails : SameMails (mail_of old.mailboxes) (mail_of new.mailboxes)
  pub told : act ≡ Empty name

-- a value was printed
pub record HasPrinted (t : ℕ) (shape : List Token) (live : ALive) (old new : Machine) (act : Act) : Type 0 where
  pub world : new.world ≡ old.world
  pub stands : StandsAt t (behind_in live) old.tasks.items new.tasks.items
  pub mailboxes : new.mailboxes ≡ old.mailboxes
  pub told : act ≡ Print shape

-- a task was started, behind the others
pub record HasStarted (p : Program) (t root : ℕ) (shape : List Token) (live : ALive) (old new : Machine) (act : Act) : Type 0 where
  pub world : new.world ≡ old.world
  pub mid : List Task
  pub stands : StandsAt t (behind_in live) old.tasks.items mid
  pub first : ALive
  pub frames : execute_frames p old.world.heap root ≡ Some (calls_in first.frames)
  pub done : first.done ≡ 0
  pub boxes : first.boxes ≡ 0
  pub tasks : new.tasks.items ≡ mid ++ a_task.Live first ∷ []
  pub mailboxes : new.mailboxes ≡ old.mailboxes
  pub told : act ≡ Start (length old.tasks.items) shape

-- what is kept where that task is over
abbrev pub kept_behind : ℕ → Option ℕ → Option ℕ
kept_behind t kept = if t == 0 then None else kept

-- the task is over
pub record HasEnded (t : ℕ) (cause : EndCause) (old new : Machine) (act : Act) : Type 0 where
  pub heap : new.world.heap ≡ old.world.heap
  pub next : new.world.next ≡ old.world.next
  pub kept : new.world.kept ≡ kept_behind t old.world.kept
  pub tasks : new.tasks.items ≡ slice_set old.tasks.items t (a_task.Ended cause)
  pub mailboxes : new.mailboxes ≡ old.mailboxes
  pub told : act ≡ End cause

-- what a task comes to is what its thread does next
abbrev pub IsNextOf : ℕ → World → ALive → Came → Next → Type 0
IsNextOf t w l came.On n = ⊥
IsNextOf t w l (came.Puts box root shape) n = n ≡ Puts box root shape (behind_at t w l)
IsNextOf t w l (came.PutsWaiting box root shape) n = n ≡ PutWaits box root shape (behind_at t w l)
IsNextOf t w l (came.TooLarge box root) n = n ≡ Ends Large (ended_at w Large)
IsNextOf t w l (came.Bounds box most) n = n ≡ Bounds box most (behind_at t w l)
IsNextOf t w l (came.Takes box) n = n ≡ Gets box (behind_at t w l)
IsNextOf t w l (came.Probes box) n = n ≡ Probes box (behind_at t w l)
IsNextOf t w l (came.Starts root shape) n = n ≡ Starts root shape (behind_at t w l)
IsNextOf t w l (came.Prints shape) n = (token : Token) × (shape ≡ token ∷ []) × (n ≡ Prints token (behind_at t w l))
IsNextOf t w l (came.Ends why) n = n ≡ Ends why (ended_at w why)

-- it can be done: a message is there that is taken, there is room where a put waits, and the instruction can be counted
abbrev pub CanDo : Mailboxes → ℕ → Came → Type 0
CanDo boxes done came.On = ⊥
CanDo boxes done (came.Takes box) = ((mail_of boxes box).queue ≡ [] → ⊥) × (done + 1 < 2 ^ 64)
CanDo boxes done (came.PutsWaiting box root shape) = (is_full (mail_of boxes box) ≡ false) × (done + 1 < 2 ^ 64)
CanDo boxes done (came.TooLarge box root) = Unit {0}
CanDo boxes done (came.Ends why) = Unit {0}
CanDo boxes done c = done + 1 < 2 ^ 64

-- that move was made, and that is its action
pub record IsDone (moved : Moved) (m : Machine) (act : Act) : Type 0 where
  pub told : moved.act ≡ Some act
  pub views : Views m.world m.tasks.items m.mailboxes moved.state

-- a state of the run of a verified program, with just these tasks and mailboxes
pub record IsAt (set : Setting) (m : Machine) (s : State) : Type 0 where
  pub typed : IsTypedRun set s
  pub views : Views m.world m.tasks.items m.mailboxes s
