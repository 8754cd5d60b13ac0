-- Several steps of a task, some of which count.
use Rattle.std.specs.Prelude.{◌≡◌, ℕ, suc, ◌<◌, ◌≤◌, Bool, true, false, ◌&&◌, List, [], ◌∷◌, Some, None, reverse, take, length}
use Rattle.std.specs.FinMap.{get, insert}
use Rattle.kilim_program.specs.declared.names.ClassId.{ClassId}
use Rattle.kilim_program.specs.declared.names.MethodId.{MethodId}
use Rattle.kilim_program.specs.declared.value.Value.{Value}
use Rattle.kilim_program.specs.declared.value.Value.TheVariants.{Ref}
use Rattle.kilim_program.specs.Program.{Program}
use Rattle.kilim_run_state.specs.declared.cause.EndCause.{EndCause}
use Rattle.kilim_run_state.specs.Machine.{Activation, Objects}
use Rattle.kilim_run_state.specs.Objects.{new_object}
use Rattle.kilim_run_machine.specs.Moves.{Move, moves}
use Rattle.kilim_run_machine.specs.Moves as move
use Rattle.kilim_run_machine.specs.Raising.{index_at, raised_class, thrown}
use Rattle.kilim_run_state.specs.declared.frames.frames.Frames.{Frames}
use Rattle.kilim_run_state.specs.frames.Calls.{calls_of}
use Rattle.kilim_run_interp.specs.Run.{IsFine, LastSteps}
use Rattle.kilim_run_interp.specs.Step.{IsWent}
use Rattle.kilim_run_interp.specs.declared.machine.NativeCall.{NativeCall}
use Rattle.kilim_run_interp.specs.declared.machine.Stepped.{Stepped}
use Rattle.kilim_run_interp.specs.declared.machine.Stepped.TheVariants as stepped
use Rattle.kilim_fiber_steps.specs.Marks.{NextHas}
use Rattle.kilim_fiber_steps.specs.declared.runs.Halted.{Halted}
use Rattle.kilim_fiber_steps.specs.declared.runs.Halted.TheVariants.{Stops, Spent, NewBox, Asks, Returned, Ended}

-- a count, with an instruction more if that counts
abbrev pub tick_if : Bool → ℕ → ℕ
tick_if true n = suc n
tick_if false n = n

-- ---- exceptions

-- A move of these frames on this heap, after which the task goes on: by itself, or at the handler that catches what it raises, a new
-- object, or throws.
pub data GoesOn (p : Program) (top : Activation) (below : List Activation) (m : Move) (h : Objects) (calls : List Activation) (k : Objects) : Type 0 where
  Went : IsWent m calls h k → GoesOn p top below m h calls k
  Caught : (why : EndCause) (of : ClassId) (name : ℕ) (f : Activation) (fs : List Activation) → m ≡ move.Raises why → raised_class p (index_at p top) why ≡ Some of → get h name ≡ None →
      k ≡ insert h name (new_object p of) → thrown p of (Ref name) top below ≡ f ∷ fs → calls ≡ f ∷ fs → GoesOn p top below m h calls k
  Thrown : (why : EndCause) (object : ℕ) (class : ClassId) (f : Activation) (fs : List Activation) → m ≡ move.Throws object class why → k ≡ h →
      thrown p class (Ref object) top below ≡ f ∷ fs → calls ≡ f ∷ fs → GoesOn p top below m h calls k

-- one step, after which the task goes on
abbrev pub StepsOn : Program → List Activation → Objects → List Activation → Objects → Type 0
StepsOn p [] h calls k = ⊥
StepsOn p (top ∷ below) h calls k = GoesOn p top below (moves p top below h) h calls k

-- The move of these frames ends the task with that cause: nothing catches what it raises or throws.
abbrev pub IsEnding : Program → Activation → List Activation → Move → EndCause → Type 0
IsEnding p top below (move.Ends why) cause = why ≡ cause
IsEnding p top below (move.Raises why) cause = (why ≡ cause) × ((c : ClassId) → raised_class p (index_at p top) why ≡ Some c → (v : Value) → thrown p c v top below ≡ [])
IsEnding p top below (move.Throws object class why) cause = (why ≡ cause) × (thrown p class (Ref object) top below ≡ [])
IsEnding p top below m cause = ⊥

-- ---- steps

-- Steps one after the other, each of an instruction that has a mark, of which so many count: those that are marked, where the fiber is live.
pub data CountedRunsTo (p : Program) (counted : List (List Bool)) (live : Bool) (first : List Activation) (h : Objects) : ℕ → List Activation → Objects → Type 0 where
  AtFirst : {n : ℕ} {calls : List Activation} {k : Objects} → n ≡ 0 → calls ≡ first → k ≡ h → CountedRunsTo p counted live first h n calls k
  Further : {n : ℕ} {calls : List Activation} {k : Objects} (mark : Bool) (m : ℕ) (mid : List Activation) (x : Objects) →
      CountedRunsTo p counted live first h m mid x → NextHas p counted mark mid → StepsOn p mid x calls k → n ≡ tick_if (mark && live) m → CountedRunsTo p counted live first h n calls k

-- Wherever such steps lead, the next one is fine, if its instruction has a mark: unless that counts, and as many are counted as may be.
abbrev pub IsCountedSafe : Program → List (List Bool) → Bool → ℕ → List Activation → Objects → Type 0
IsCountedSafe p counted live limit first h =
    (n : ℕ) (mark : Bool) (top : Activation) (below : List Activation) (k : Objects) → n ≤ limit → ((mark && live) ≡ true → n < limit) → CountedRunsTo p counted live first h n (top ∷ below) k → NextHas p counted mark (top ∷ below) → IsFine p top below k

-- the call of a built-in method for whose answer these frames wait: its arguments are the operands, the topmost one last
abbrev pub asked_of : MethodId → Frames → NativeCall
asked_of id frames = record { method = id; args = reverse (take frames.operands frames.top.stack.values) }

-- the next instruction has that mark, and may be done; and its step answers so
pub record AnswersNext (p : Program) (counted : List (List Bool)) (live : Bool) (limit steps : ℕ) (calls : List Activation) (h : Objects) (mark : Bool) (answer : Stepped) (new : Frames) (k : Objects) : Type 0 where
  pub left : (mark && live) ≡ true → steps < limit
  pub has : NextHas p counted mark calls
  pub step : LastSteps p calls h answer new k

-- the next step ends the task with that cause
abbrev pub LastEnds : Program → List Activation → Objects → EndCause → Type 0
LastEnds p [] h cause = ⊥
LastEnds p (top ∷ below) h cause = IsEnding p top below (moves p top below h) cause

-- the next instruction has that mark, and may be done, and its step ends so
pub record EndsNext (p : Program) (counted : List (List Bool)) (live : Bool) (limit steps : ℕ) (calls : List Activation) (h : Objects) (mark : Bool) (cause : EndCause) : Type 0 where
  pub left : (mark && live) ≡ true → steps < limit
  pub has : NextHas p counted mark calls
  pub step : LastEnds p calls h cause

-- the next instruction has that mark and counts, and as many are counted as may be; nothing was changed
pub record IsSpent (p : Program) (counted : List (List Bool)) (live : Bool) (limit steps : ℕ) (calls : List Activation) (h : Objects) (mark : Bool) (new : Frames) (k : Objects) : Type 0 where
  pub counts : (mark && live) ≡ true
  pub all : steps ≡ limit
  pub has : NextHas p counted mark calls
  pub frames : calls_of new ≡ calls
  pub heap : k ≡ h

-- what ended the steps, which came to these frames and this heap
abbrev pub IsCountedLast : Program → List (List Bool) → Bool → ℕ → ℕ → List Activation → Objects → Bool → Halted → Frames → Objects → Type 0
IsCountedLast p counted live limit steps calls h mark Stops new k = (calls_of new ≡ calls) × (k ≡ h)
IsCountedLast p counted live limit steps calls h mark Spent new k = IsSpent p counted live limit steps calls h mark new k
IsCountedLast p counted live limit steps calls h mark NewBox new k = AnswersNext p counted live limit steps calls h mark stepped.NewBox new k
IsCountedLast p counted live limit steps calls h mark (Asks id) new k = (new.operands ≤ length new.top.stack.values) × AnswersNext p counted live limit steps calls h mark (stepped.AtNative (asked_of id new)) new k
IsCountedLast p counted live limit steps calls h mark Returned new k = AnswersNext p counted live limit steps calls h mark stepped.Returned new k
IsCountedLast p counted live limit steps calls h mark (Ended cause) new k = EndsNext p counted live limit steps calls h mark cause

pub record HasCountedRun (p : Program) (counted : List (List Bool)) (live : Bool) (limit : ℕ) (first : List Activation) (h : Objects) (steps : ℕ) (mark : Bool) (halted : Halted) (new : Frames) (k : Objects) : Type 0 where
  pub calls : List Activation
  pub heap : Objects
  pub most : steps ≤ limit
  pub runs : CountedRunsTo p counted live first h steps calls heap
  pub last : IsCountedLast p counted live limit steps calls heap mark halted new k
