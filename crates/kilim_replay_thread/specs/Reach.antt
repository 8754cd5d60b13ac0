-- What a task comes to, against the thread of that task.
use Rattle.std.specs.Prelude.{◌≡◌, ◌<◌, ◌≤◌, ℕ, List, [], ◌∷◌, Some, None}
use Rattle.kilim_program.specs.Program.{Program}
use Rattle.kilim_program.specs.declared.names.BoxName.{BoxName}
use Rattle.kilim_program.specs.declared.names.ClassId.{ClassId}
use Rattle.kilim_program.specs.declared.names.MethodId.{MethodId}
use Rattle.kilim_program.specs.declared.value.Value.TheVariants.{Ref, Box}
use Rattle.kilim_run_state.specs.declared.cause.EndCause.{EndCause}
use Rattle.kilim_run_state.specs.declared.cause.EndCause.TheVariants.{Large}
use Rattle.kilim_run_state.specs.declared.run.Limits.{Limits}
use Rattle.kilim_run_state.specs.declared.value.Token.{Token}
use Rattle.kilim_run_state.specs.Machine.{Objects, Activation}
use Rattle.kilim_run_machine.specs.Moves.{moves, Asks}
use Rattle.kilim_run_machine.specs.Natives.{native_of, PutWait}
use Rattle.kilim_run_model.specs.State.{Setting, Thread, Alive}
use Rattle.kilim_run_model.specs.Lone.{Lone, Next, Puts, PutWaits, Bounds, Gets, Probes, Starts, Prints, Ends, next_move, get_at}
use Rattle.kilim_run_model.specs.Course.{Quiet}
use Rattle.kilim_replay_thread.specs.Live.{behind_at, ended_at, kept_for, lone_at, thread_in}
use Rattle.kilim_replay_thread.specs.declared.task.Came.{Came}
use Rattle.kilim_replay_thread.specs.declared.task.Came.TheVariants as came
use Rattle.kilim_replay_thread.specs.declared.task.Live.{Live}
use Rattle.kilim_replay_thread.specs.declared.task.World.{World}

-- the run of a program with a main class
abbrev pub setting_of : Program → ClassId → Limits → Setting
setting_of p main limits = record { program = p; main = main; limits = limits }

-- moves without an action led there, and that is what the thread does next
pub record Stood (set : Setting) (t : ℕ) (first : Lone) (w : World) (l : Live) (next : Next) : Type 0 where
  pub quiet : Quiet set t first (lone_at t w l)
  pub does : next_move set t (lone_at t w l) ≡ next
  pub few : l.done < set.limits.steps

-- what all tasks share, for the thread of that task
pub record Shares (t : ℕ) (l : Lone) (w : World) : Type 0 where
  pub heap : l.heap ≡ w.heap
  pub next : l.next ≡ w.next
  pub kept : l.kept ≡ kept_for t w.kept

-- whatever the heap holds, it may have to wait for nothing
abbrev pub WaitsNowhere : Setting → ℕ → Thread → Type 0
WaitsNowhere set t th = (x : Lone) → x.thread ≡ th → get_at (next_move set t x) ≡ None

-- whatever the heap holds, it stands at the call of a put that waits, with that object
pub record PutsThere (set : Setting) (th : Thread) (box : BoxName) (root : ℕ) : Type 0 where
  pub top : Activation
  pub below : List Activation
  pub done : ℕ
  pub boxes : ℕ
  pub alive : th ≡ Alive (top ∷ below) done boxes
  pub few : done < set.limits.steps
  pub method : MethodId
  pub native : native_of set.program method ≡ Some PutWait
  pub frames : List Activation
  pub asks : (heap : Objects) → moves set.program top below heap ≡ Asks method (Box box ∷ Ref root ∷ []) frames heap

-- moves without an action led somewhere, and there it ends
pub record Ended (set : Setting) (t : ℕ) (first : Lone) (w : World) (why : EndCause) : Type 0 where
  pub mid : Lone
  pub quiet : Quiet set t first mid
  pub does : next_move set t mid ≡ Ends why (ended_at w why)
  pub shares : Shares t mid w
  pub nowhere : WaitsNowhere set t mid.thread

-- there it ends, since what it would put is too large
pub record EndedLarge (set : Setting) (t : ℕ) (first : Lone) (w : World) (box : BoxName) (root : ℕ) : Type 0 where
  pub mid : Lone
  pub quiet : Quiet set t first mid
  pub does : next_move set t mid ≡ Ends Large (ended_at w Large)
  pub shares : Shares t mid w
  pub puts : PutsThere set mid.thread box root

-- moves without an action led there, and more instructions are done
pub record WentOn (set : Setting) (t : ℕ) (first : Lone) (done : ℕ) (w : World) (l : Live) : Type 0 where
  pub quiet : Quiet set t first (lone_at t w l)
  pub more : done < l.done
  pub most : l.done ≤ set.limits.steps

abbrev pub Reaches : Setting → ℕ → Lone → ℕ → World → Live → Came → Type 0
Reaches set t first done w l came.On = WentOn set t first done w l
Reaches set t first done w l (came.Puts box root shape) = Stood set t first w l (Puts box root shape (behind_at t w l))
Reaches set t first done w l (came.PutsWaiting box root shape) = Stood set t first w l (PutWaits box root shape (behind_at t w l)) × PutsThere set (thread_in l) box root
Reaches set t first done w l (came.TooLarge box root) = EndedLarge set t first w box root
Reaches set t first done w l (came.Bounds box most) = Stood set t first w l (Bounds box most (behind_at t w l))
Reaches set t first done w l (came.Takes box) = Stood set t first w l (Gets box (behind_at t w l))
Reaches set t first done w l (came.Probes box) = Stood set t first w l (Probes box (behind_at t w l))
Reaches set t first done w l (came.Starts root shape) = Stood set t first w l (Starts root shape (behind_at t w l))
Reaches set t first done w l (came.Prints shape) = (token : Token) × (shape ≡ token ∷ []) × Stood set t first w l (Prints token (behind_at t w l))
Reaches set t first done w l (came.Ends why) = Ended set t first w why

abbrev pub IsComing : Came → Type 0
IsComing came.On = ⊥
IsComing c = Unit {0}
