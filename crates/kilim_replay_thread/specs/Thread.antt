-- Steps of one thread on a heap that it may share, each of which counts.
use Rattle.std.specs.Prelude.{◌≡◌, ℕ, suc, ◌+◌, ◌<◌, ◌≤◌, Bool, true, false, List, [], ◌∷◌, Option, Some, None, length, reverse, take}
use Rattle.std.specs.FinMap.{insert}
use Rattle.kilim_program.specs.Program.{Program}
use Rattle.kilim_program.specs.declared.class.Method.{Method}
use Rattle.kilim_program.specs.declared.names.MethodId.{MethodId}
use Rattle.kilim_run_state.specs.declared.value.Object.{Object}
use Rattle.kilim_program.specs.declared.value.Value.TheVariants.{Ref}
use Rattle.kilim_run_state.specs.Machine.{Activation, Objects}
use Rattle.kilim_run_machine.specs.Effect.{Effect}
use Rattle.kilim_run_machine.specs.Moves.{Change, Move, Runs, Makes, effect_of, moves, push_value}
use Rattle.kilim_run_state.specs.declared.frames.frame.Frame.{Frame}
use Rattle.kilim_run_state.specs.declared.frames.frames.Frames.{Frames}
use Rattle.kilim_run_state.specs.frames.Calls.{activation, below_of, calls_of}
use Rattle.kilim_run_rows.specs.declared.outcome.Moved.{Moved}
use Rattle.kilim_run_rows.specs.declared.outcome.Moved.TheVariants as moved
use Rattle.kilim_run_rows.specs.Outcome.{Shows}
use Rattle.kilim_run_interp.specs.Step.{IsWent, Steps}
use Rattle.kilim_run_interp.specs.Run.{IsFine}
use Rattle.kilim_run_interp.specs.declared.machine.NativeCall.{NativeCall}
use Rattle.kilim_run_interp.specs.declared.machine.Stepped.TheVariants as stepped
use Rattle.kilim_run_model.specs.State.{Setting, Alive}
use Rattle.kilim_run_model.specs.Lone.{Lone}
use Rattle.kilim_run_model.specs.Course.{Quiet}
use Rattle.kilim_replay_thread.specs.declared.runs.Halted.{Halted}
use Rattle.kilim_replay_thread.specs.declared.runs.Halted.TheVariants as halted
use Rattle.kilim_replay_thread.specs.declared.runs.One.{One}
use Rattle.kilim_replay_thread.specs.declared.runs.One.TheVariants as one

-- ---- one step

-- The thread goes on. A new object has the next name, which is on top of the stack.
pub data IsNamed (m : Move) (calls : List Activation) (h k : Objects) (next after : ℕ) : Type 0 where
  RanOn : (change : Change) → m ≡ Runs change calls k → after ≡ next → IsNamed m calls h k next after
  MadeOne : (object : Object) (before : List Activation) → m ≡ Makes object before h → calls ≡ push_value (Ref next) before → k ≡ insert h next object → after ≡ next + 1 → IsNamed m calls h k next after

abbrev pub StepsOn : Program → List Activation → Objects → ℕ → List Activation → Objects → ℕ → Type 0
StepsOn p [] h next calls k after = ⊥
StepsOn p (top ∷ below) h next calls k after = IsNamed (moves p top below h) calls h k next after

-- neither a new object nor want of memory
abbrev pub is_plain : Moved → Bool
is_plain (moved.Made at) = false
is_plain moved.NoMemory = false
is_plain m = true

abbrev pub is_asked : Moved → Bool
is_asked (moved.Asked id n) = true
is_asked m = false

-- it is the outcome of some effect
pub record IsShown (own : Method) (behind : ℕ) (m : Moved) (top : Frame) : Type 0 where
  pub effect : Effect
  pub before : Frame
  pub heap : Objects
  pub after : Objects
  pub shows : Shows own effect behind m before top heap after
  pub same : before.method ≡ top.method

pub record IsOpen (p : Program) (own : Method) (old : Frames) (h : Objects) (m : Moved) (behind : ℕ) (new : Frames) (k : Objects) : Type 0 where
  pub shows : Shows own (effect_of p (activation old.top) h) behind m old.top new.top h k
  pub same : old.top.method ≡ new.top.method
  pub below : below_of new ≡ below_of old
  pub plain : is_plain m ≡ true

abbrev pub Does : Program → Method → Frames → Objects → ℕ → One → Frames → Objects → ℕ → Type 0
Does p own old h next one.Goes new k after = IsNamed (moves p (activation old.top) (below_of old) h) (calls_of new) h k next after
Does p own old h next (one.Leaves m behind) new k after = IsOpen p own old h m behind new k × (after ≡ next)
Does p own old h next one.Lost new k after = Unit {0}
Does p own old h next one.Renamed new k after = Unit {0}

-- ---- what ends them

-- the call of a built-in method for whose answer these frames wait
abbrev pub asked_of : MethodId → Frames → NativeCall
asked_of id frames = record { method = id; args = reverse (take frames.operands frames.top.stack.values) }

abbrev pub Settles : Move → Option Halted → List Activation → Frames → Objects → Objects → Type 0
Settles m None calls new h k = IsWent m (calls_of new) h k
Settles m (Some halted.Spent) calls new h k = ⊥
Settles m (Some halted.NewBox) calls new h k = Steps m stepped.NewBox calls new h k
Settles m (Some (halted.Asks id)) calls new h k = (new.operands ≤ length new.top.stack.values) × Steps m (stepped.AtNative (asked_of id new)) calls new h k
Settles m (Some halted.Returned) calls new h k = Steps m stepped.Returned calls new h k
Settles m (Some (halted.Raised cause)) calls new h k = Steps m (stepped.Raised cause) calls new h k
Settles m (Some (halted.Thrown object class cause)) calls new h k = Steps m (stepped.Thrown object class cause) calls new h k
Settles m (Some (halted.Ended cause)) calls new h k = Steps m (stepped.Ended cause) calls new h k

-- ---- steps one behind the other

pub data RunsTo (p : Program) (first : List Activation) (h : Objects) (next : ℕ) : ℕ → List Activation → Objects → ℕ → Type 0 where
  AtFirst : {n : ℕ} {calls : List Activation} {k : Objects} {after : ℕ} → n ≡ 0 → calls ≡ first → k ≡ h → after ≡ next → RunsTo p first h next n calls k after
  Further : {n : ℕ} {calls : List Activation} {k : Objects} {after : ℕ} (q : ℕ) (mid : List Activation) (x : Objects) (l : ℕ) →
      RunsTo p first h next q mid x l → StepsOn p mid x l calls k after → n ≡ suc q → RunsTo p first h next n calls k after

-- wherever fewer than so many steps lead, the next one is fine
abbrev pub IsSafe : Program → ℕ → List Activation → Objects → ℕ → Type 0
IsSafe p limit first h next = (n : ℕ) (top : Activation) (below : List Activation) (k : Objects) (after : ℕ) → n < limit → RunsTo p first h next n (top ∷ below) k after → IsFine p top below k

abbrev pub IsLast : Program → ℕ → ℕ → List Activation → Objects → Halted → Frames → Objects → Type 0
IsLast p limit steps calls h halted.Spent new k = (steps ≡ limit) × (calls_of new ≡ calls) × (k ≡ h)
IsLast p limit steps [] h halted new k = ⊥
IsLast p limit steps (top ∷ below) h halted new k = (steps < limit) × Settles (moves p top below h) (Some halted) (top ∷ below) new h k

pub record HasRun (p : Program) (limit : ℕ) (first : List Activation) (h : Objects) (next steps : ℕ) (halted : Halted) (new : Frames) (k : Objects) (after : ℕ) : Type 0 where
  pub calls : List Activation
  pub heap : Objects
  pub most : steps ≤ limit
  pub runs : RunsTo p first h next steps calls heap after
  pub last : IsLast p limit steps calls heap halted new k

-- ---- as a thread

abbrev pub thread_on : Objects → ℕ → Option ℕ → List Activation → ℕ → ℕ → Lone
thread_on h next kept calls done boxes = record { heap = h; next = next; thread = Alive calls done boxes; kept = kept }

-- such steps are its moves without an action, as long as it has instructions left
abbrev pub RunsAreQuiet : Type 0
RunsAreQuiet = (set : Setting) (t : ℕ) (first calls : List Activation) (h k : Objects) (next after n done boxes : ℕ) (kept : Option ℕ) → RunsTo set.program first h next n calls k after → done + n ≤ set.limits.steps →
    Quiet set t (thread_on h next kept first done boxes) (thread_on k after kept calls (done + n) boxes)
