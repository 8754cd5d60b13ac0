-- What a step answers, against the machine's move.
use Rattle.std.specs.Prelude.{◌≡◌, ℕ, ◌<◌, ◌≤◌, List, [], ◌∷◌, Option, Some, None, length}
use Rattle.std.specs.FinMap.{get, insert}
use Rattle.kilim_program.specs.declared.class.Method.{Method}
use Rattle.std.specs.List.{AllByRecursion}
use Rattle.kilim_program.specs.declared.names.MethodId.{MethodId}
use Rattle.kilim_program.specs.Names.{method_at}
use Rattle.kilim_program.specs.declared.value.Value.TheVariants.{Ref}
use Rattle.kilim_program.specs.Program.{Program}
use Rattle.kilim_run_state.specs.declared.cause.EndCause.{EndCause}
use Rattle.kilim_run_state.specs.declared.value.Object.{Object}
use Rattle.kilim_run_state.specs.Machine.{Activation, Objects}
use Rattle.kilim_run_machine.specs.Effect.{Effect}
use Rattle.kilim_run_machine.specs.Effect as effect
use Rattle.kilim_run_machine.specs.Moves.{Change, Move, Runs, Makes, Opens, Asks, Returns, Raises, Throws, Ends, push_value}
use Rattle.kilim_run_state.specs.declared.frames.frame.Frame.{Frame}
use Rattle.kilim_run_state.specs.declared.frames.frames.Frames.{Frames}
use Rattle.kilim_run_state.specs.frames.Calls.{answered, below_of, calls_of}
use Rattle.kilim_run_rows.specs.declared.outcome.Moved.{Moved}
use Rattle.kilim_run_rows.specs.declared.outcome.Moved.TheVariants.{Called, Asked, ReturnedValue}
use Rattle.kilim_run_rows.specs.Outcome.{height}
use Rattle.kilim_run_interp.specs.declared.machine.Stepped.{Stepped}
use Rattle.kilim_run_interp.specs.declared.machine.Stepped.TheVariants.{Went, NewBox, AtNative, Returned, Raised, Thrown, Ended}

-- the cause with which a move raises, throws or ends
abbrev pub cause_of : Move → Option EndCause
cause_of (Raises cause) = Some cause
cause_of (Throws object class cause) = Some cause
cause_of (Ends cause) = Some cause
cause_of m = None

-- Frames as they stand at an instruction that raises or throws: but for the operands of the top one they are as before.
abbrev pub StandsAt : List Activation → Frames → Type 0
StandsAt [] new = ⊥
StandsAt (top ∷ below) new = (new.top.method ≡ top.method) × (new.top.pc ≡ top.place) × (new.top.locals ≡ top.locals) × (below_of new ≡ below)

-- the most values on a stack in a method
abbrev pub limit_in : Option Method → ℕ
limit_in None = 0
limit_in (Some method) = method.max_stack

abbrev pub stack_limit : Program → MethodId → ℕ
stack_limit p m = limit_in (method_at p m)

-- the frame below has room for one value more
abbrev pub CallerFits : Program → List Activation → Type 0
CallerFits p [] = Unit {0}
CallerFits p (caller ∷ below) = length caller.stack < stack_limit p caller.method

-- What the instruction leaves on the stack fits the limit of its method; what a method returns, that of its caller.
abbrev pub FitsStack : Program → Effect → MethodId → List Activation → Type 0
FitsStack p (effect.Returns None heap) m below = Unit {0}
FitsStack p (effect.Returns (Some v) heap) m below = CallerFits p below
FitsStack p e m below = height e ≤ stack_limit p m

-- the frame's stack has room for as many values as its method may have there
abbrev pub IsRoomy : Program → Frame → Type 0
IsRoomy p frame = stack_limit p frame.method ≤ frame.stack.room

pub record AreRoomy (p : Program) (frames : Frames) : Type 0 where
  pub top : IsRoomy p frames.top
  pub below : AllByRecursion (IsRoomy p) frames.below

-- The task went on: its frames are others, or a new object was added and its name put on top.
pub data IsWent (m : Move) (frames : List Activation) (old new : Objects) : Type 0 where
  RanOn : (change : Change) → m ≡ Runs change frames new → IsWent m frames old new
  MadeOne : (object : Object) (at : ℕ) (before : List Activation) → m ≡ Makes object before old → frames ≡ push_value (Ref at) before → get old at ≡ None → new ≡ insert old at object → IsWent m frames old new

-- nothing was changed
pub record IsSame (calls : List Activation) (new : Frames) (before after : Objects) : Type 0 where
  pub frames : calls_of new ≡ calls
  pub heap : after ≡ before

-- that a step from these frames and this heap answers so, and leaves those
abbrev pub Steps : Move → Stepped → List Activation → Frames → Objects → Objects → Type 0
Steps m Went calls new before after = IsWent m (calls_of new) before after
Steps m NewBox calls new before after = (m ≡ Opens (answered new) before) × IsSame calls new before after
Steps m (AtNative call) calls new before after = (m ≡ Asks call.method call.args (answered new) before) × IsSame calls new before after
Steps m Returned calls new before after = (m ≡ Returns before) × IsSame calls new before after
Steps m (Raised cause) calls new before after = (m ≡ Raises cause) × StandsAt calls new × (after ≡ before)
Steps m (Thrown object class cause) calls new before after = (m ≡ Throws object class cause) × StandsAt calls new × (after ≡ before)
Steps m (Ended cause) calls new before after = (m ≡ Ends cause) × (after ≡ before)

-- ---- what came of an instruction of the top frame

-- what has to be known to go on from an outcome
abbrev pub CanSettle : Program → Moved → Frames → Type 0
CanSettle p (Called m n) frames = n ≤ length frames.top.stack.values
CanSettle p (Asked m n) frames = n ≤ length frames.top.stack.values
CanSettle p ReturnedValue frames = (0 < length frames.top.stack.values) × CallerFits p (below_of frames)
CanSettle p moved frames = Unit {0}
