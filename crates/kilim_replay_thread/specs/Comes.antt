-- What a task comes to at a built-in method, against what a thread does next there.
use Rattle.std.specs.Prelude.{◌≡◌, ◌<◌, ◌≤◌, ◌+◌, ◌-◌, ℕ, true, false, List, [], ◌∷◌, Option, Some, None}
use Rattle.kilim_program.specs.Program.{Program}
use Rattle.kilim_program.specs.declared.value.Value.{Value}
use Rattle.kilim_program.specs.declared.names.BoxName.{BoxName}
use Rattle.kilim_program.specs.declared.value.Value.TheVariants.{Null, Ref, Box}
use Rattle.kilim_run_state.specs.declared.cause.EndCause.TheVariants.{Large}
use Rattle.kilim_run_state.specs.declared.frames.frames.Frames.{Frames}
use Rattle.kilim_run_state.specs.declared.value.Token.{Token}
use Rattle.kilim_run_state.specs.Machine.{Objects}
use Rattle.kilim_run_state.specs.Words.{IsThere}
use Rattle.kilim_run_machine.specs.Natives.{Native}
use Rattle.kilim_run_machine.specs.Natives as native
use Rattle.kilim_run_model.specs.State.{Setting, execute_frames}
use Rattle.kilim_run_model.specs.Lone.{Lone, Next, Stands, asks_next, Goes, Puts, PutWaits, Bounds, Gets, Probes, Starts, Prints, Ends}
use Rattle.kilim_run_trees.specs.Shaping.{AllSuit}
use Rattle.kilim_run_trees.specs.Walk.{AllThere}
use Rattle.kilim_type_sound.specs.Fits.{AreThere}
use Rattle.kilim_fiber_spec.specs.fiber_kin.Served.{gives_value}
use Rattle.kilim_replay_laws.specs.shared.Shared.{HeapServes}
use Rattle.kilim_replay_laws.specs.Waiting.{waits_call}
use Rattle.kilim_replay_thread.specs.Live.{HasFrames, RoomIn, behind_at, calls_in, ended_at, lone_at}
use Rattle.kilim_replay_thread.specs.Thread.{HasRun}
use Rattle.kilim_replay_thread.specs.declared.runs.Halted.{Halted}
use Rattle.kilim_replay_thread.specs.declared.task.Came.{Came}
use Rattle.kilim_replay_thread.specs.declared.task.Came.TheVariants as came
use Rattle.kilim_replay_thread.specs.declared.task.Live.{Live}
use Rattle.kilim_replay_thread.specs.declared.task.World.{World}

-- ---- a tree that is shown

pub record CanShow (p : Program) (h : Objects) (root : ℕ) : Type 0 where
  pub there : AllThere h root
  pub suits : AllSuit p h

-- a value that is put: null, or a reference to an object whose tree can be shown
abbrev pub IsShownMessage : Program → Objects → Value → Type 0
IsShownMessage p h Null = Unit {0}
IsShownMessage p h (Ref n) = CanShow p h n
IsShownMessage p h v = ⊥

-- a method begins on the object of that name
abbrev pub CanBegin : Program → Objects → ℕ → Type 0
CanBegin p h root = execute_frames p h root ≡ None → ⊥

-- ---- what comes

-- the same count, or one instruction more
pub record IsNear (old new : ℕ) : Type 0 where
  pub least : old ≤ new
  pub most : new ≤ old + 1

-- one instruction further
pub record IsFurther (t : ℕ) (next : Next) (old : Live) (w : World) (new : Live) : Type 0 where
  pub goes : next ≡ Goes (lone_at t w new)
  pub counted : old.done < new.done

-- nothing was changed
pub record IsSame (w : World) (l : Live) (w' : World) (l' : Live) : Type 0 where
  pub world : w' ≡ w
  pub live : l' ≡ l

-- The thread of that task does the same next. What it does is still to be done, but for an end.
abbrev pub Comes : ℕ → Next → World → Live → World → Live → Came → Type 0
Comes t next w l w' l' came.On = IsFurther t next l w' l'
Comes t next w l w' l' (came.Puts box root shape) = (next ≡ Puts box root shape (behind_at t w l)) × IsSame w l w' l'
Comes t next w l w' l' (came.PutsWaiting box root shape) = (next ≡ PutWaits box root shape (behind_at t w l)) × IsSame w l w' l'
Comes t next w l w' l' (came.TooLarge box root) = (next ≡ Ends Large (ended_at w Large)) × (w' ≡ w)
Comes t next w l w' l' (came.Bounds box most) = (next ≡ Bounds box most (behind_at t w l)) × IsSame w l w' l'
Comes t next w l w' l' (came.Takes box) = (next ≡ Gets box (behind_at t w l)) × IsSame w l w' l'
Comes t next w l w' l' (came.Probes box) = (next ≡ Probes box (behind_at t w l)) × IsSame w l w' l'
Comes t next w l w' l' (came.Starts root shape) = (next ≡ Starts root shape (behind_at t w l)) × IsSame w l w' l'
Comes t next w l w' l' (came.Prints shape) = (token : Token) × (shape ≡ token ∷ []) × (next ≡ Prints token (behind_at t w l)) × IsSame w l w' l'
Comes t next w l w' l' (came.Ends why) = (next ≡ Ends why (ended_at w why)) × (w' ≡ w)

-- it goes on, or ends
abbrev pub IsOnOrEnd : Came → Type 0
IsOnOrEnd came.On = Unit {0}
IsOnOrEnd (came.Ends why) = Unit {0}
IsOnOrEnd c = ⊥

-- no put that waits
abbrev pub IsOther : Came → Type 0
IsOther (came.PutsWaiting box root shape) = ⊥
IsOther (came.TooLarge box root) = ⊥
IsOther c = Unit {0}

-- what is put where a task comes to a put that waits; it ends otherwise where that is null
abbrev pub IsPutWait : BoxName → Value → Came → Type 0
IsPutWait box message (came.PutsWaiting b root shape) = (b ≡ box) × (message ≡ Ref root)
IsPutWait box message (came.TooLarge b root) = (b ≡ box) × (message ≡ Ref root)
IsPutWait box message (came.Ends why) = message ≡ Null
IsPutWait box message c = Unit {0}

-- it comes to a put that waits only at the call of one, and ends otherwise at no call that may have to wait
abbrev pub SuitsCall : Option Native → List Value → Came → Type 0
SuitsCall o args (came.PutsWaiting box root shape) = (o ≡ Some native.PutWait) × (args ≡ Box box ∷ Ref root ∷ [])
SuitsCall o args (came.TooLarge box root) = (o ≡ Some native.PutWait) × (args ≡ Box box ∷ Ref root ∷ [])
SuitsCall o args (came.Ends why) = waits_call o args ≡ false
SuitsCall o args c = Unit {0}

-- It stands at an instruction, and there is room for the result that it is to get. The task object is there, and has a
-- method to begin with.
abbrev pub HasRoomFor : Program → World → Live → Came → Type 0
HasRoomFor p w l came.On = Unit {0}
HasRoomFor p w l (came.Puts box root shape) = HasFrames l.frames
HasRoomFor p w l (came.PutsWaiting box root shape) = HasFrames l.frames
HasRoomFor p w l (came.TooLarge box root) = Unit {0}
HasRoomFor p w l (came.Bounds box most) = HasFrames l.frames
HasRoomFor p w l (came.Takes box) = RoomIn p l.frames
HasRoomFor p w l (came.Probes box) = RoomIn p l.frames
HasRoomFor p w l (came.Starts root shape) = HasFrames l.frames × IsThere w.heap root × CanBegin p w.heap root
HasRoomFor p w l (came.Prints shape) = HasFrames l.frames
HasRoomFor p w l (came.Ends why) = Unit {0}

-- It is a call that verified code makes: in some setting, whatever stands behind it, it isn't where no such code comes.
pub record IsMade (n : Option Native) (args : List Value) : Type 0 where
  pub set : Setting
  pub after : Lone
  pub never : asks_next set after args n ≡ Stands → ⊥

-- what is known where a built-in method is called
pub record CanAsk (p : Program) (n : Option Native) (args : List Value) (w : World) (l : Live) : Type 0 where
  pub room : gives_value n ≡ true → RoomIn p l.frames
  pub there : AreThere w.heap args
  pub heap : HeapServes p w.heap
  pub made : IsMade n args
  pub begins : (root : ℕ) → n ≡ Some native.Start → args ≡ Ref root ∷ [] → CanBegin p w.heap root

-- ---- many instructions

-- The steps up to a limit, the steps that were made, and what ended them.
pub record HasRunOn (p : Program) (limit : ℕ) (w : World) (l : Live) (w' : World) (l' : Live) (halted : Halted) : Type 0 where
  pub frames : Frames
  pub are : l'.frames ≡ Some frames
  pub steps : ℕ
  pub counted : l'.done ≡ l.done + steps
  pub ran : HasRun p (limit - l.done) (calls_in l.frames) w.heap w.next steps halted frames w'.heap w'.next
  pub boxes : l'.boxes ≡ l.boxes
  pub kept : w'.kept ≡ w.kept
