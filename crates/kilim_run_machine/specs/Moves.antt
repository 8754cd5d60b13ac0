-- One instruction of a task, with all of its frames.
use Rattle.kilim_run_state.specs.Machine.{slots_of}
use Rattle.std.specs.Prelude.{ℕ, ◌-◌, nat_lt, if◌then◌else◌, List, [], ◌∷◌, ◌++◌, Option, Some, None, length, replicate}
use Rattle.kilim_run_state.specs.declared.cause.EndCause.{EndCause}
use Rattle.kilim_run_state.specs.declared.cause.EndCause.TheVariants as cause
use Rattle.kilim_program.specs.declared.class.Method.{Method}
use Rattle.kilim_program.specs.Program.{Program}
use Rattle.kilim_program.specs.declared.instr.Instr.{Instr}
use Rattle.kilim_program.specs.declared.names.ClassId.{ClassId}
use Rattle.kilim_program.specs.declared.names.MethodId.{MethodId}
use Rattle.kilim_run_state.specs.declared.value.Object.{Object}
use Rattle.kilim_program.specs.declared.value.Value.{Value}
use Rattle.kilim_program.specs.declared.value.Value.TheVariants.{Null}
use Rattle.kilim_program.specs.Lengths.{fetched}
use Rattle.kilim_program.specs.Names.{method_at}
use Rattle.kilim_run_state.specs.Machine.{Objects, Activation}
use Rattle.kilim_run_machine.specs.Effect.{Effect}
use Rattle.kilim_run_machine.specs.Effect as effect
use Rattle.kilim_run_machine.specs.Does.{does}

-- the most frames of a task
abbrev pub frame_limit : ℕ
frame_limit = 512

-- what the instruction does at which a frame stands
abbrev pub effect_found : Program → Method → Activation → Objects → Option (Instr × ℕ) → Effect
effect_found p own top heap None = effect.Stuck
effect_found p own top heap (Some found) = does p own found.0 found.1 top.locals top.stack heap

abbrev pub effect_in : Program → Activation → Objects → Option Method → Effect
effect_in p top heap None = effect.Stuck
effect_in p top heap (Some method) = effect_found p method top heap (fetched method.code method.code_length top.place)

abbrev pub effect_of : Program → Activation → Objects → Effect
effect_of p top heap = effect_in p top heap (method_at p top.method)

-- how many local slots a method has
abbrev pub slots_in : Option Method → ℕ
slots_in None = 0
slots_in (Some method) = method.max_locals

-- The frame with which a method begins. A local that nothing was stored into yet is null here; verified code
-- never reads one.
abbrev pub entered : Program → MethodId → List Value → Activation
entered p m args =
    let slots = slots_of args in
    record { method = m; place = 0; locals = slots ++ replicate (slots_in (method_at p m) - length slots) Null; stack = [] }

-- the receiver with which a method begins: its first argument, and of a static method none
abbrev pub first_of : List Value → Option Value
first_of [] = None
first_of (v ∷ vs) = Some v

abbrev pub receiver_in : Option Method → List Value → Option Value
receiver_in None args = None
receiver_in (Some method) args = if method.is_static then None else first_of args

abbrev pub receiver_of : Program → MethodId → List Value → Option Value
receiver_of p m args = receiver_in (method_at p m) args

-- how a move changes which frames there are
pub data Change : Type 0 where
  -- they are the same frames
  Steps : Change
  -- a new top frame, with the receiver with which it begins
  Enters : (receiver : Option Value) → Change
  -- the top frame is gone
  Leaves : Change

-- A task's next state, as far as its own frames and the heap go. The frames are the top first.
pub data Move : Type 0 where
  -- the task goes on
  Runs : (change : Change) (frames : List Activation) (heap : Objects) → Move
  -- a new object, whose name goes on top of the top frame's stack
  Makes : (object : Object) (frames : List Activation) (heap : Objects) → Move
  -- a new mailbox, whose name goes on top of the top frame's stack
  Opens : (frames : List Activation) (heap : Objects) → Move
  -- a built-in method that is handed out, whose result goes on top of the top frame's stack
  Asks : (method : MethodId) (args : List Value) (frames : List Activation) (heap : Objects) → Move
  -- the last frame returned
  Returns : (heap : Objects) → Move
  -- something is wrong with a value
  Raises : (cause : EndCause) → Move
  -- an object of that class is thrown
  Throws : (object : ℕ) (class : ClassId) (cause : EndCause) → Move
  -- the task ends
  Ends : (cause : EndCause) → Move
  -- what no verified code does
  Stuck : Move

abbrev pub goes_on : Activation → ℕ → List Value → List Value → Activation
goes_on top place locals stack = record { method = top.method; place = place; locals = locals; stack = stack }

-- on top of the top frame's stack
abbrev pub push_value : Value → List Activation → List Activation
push_value v [] = []
push_value v (top ∷ below) = record top { stack = v ∷ top.stack } ∷ below

abbrev pub push_result : Option Value → List Activation → List Activation
push_result None frames = frames
push_result (Some v) frames = push_value v frames

abbrev pub called : Program → MethodId → List Value → List Activation → Objects → Move
called p m args frames heap = if nat_lt (length frames) frame_limit then Runs (Enters (receiver_of p m args)) (entered p m args ∷ frames) heap else Ends cause.Depth

abbrev pub returned : Option Value → List Activation → Objects → Move
returned value [] heap = Returns heap
returned value (caller ∷ below) heap = Runs Leaves (push_result value (caller ∷ below)) heap

abbrev pub move_by : Program → Effect → Activation → List Activation → Move
move_by p (effect.Goes place locals stack heap) top below = Runs Steps (goes_on top place locals stack ∷ below) heap
move_by p (effect.Makes object place locals stack heap) top below = Makes object (goes_on top place locals stack ∷ below) heap
move_by p (effect.Opens place locals stack heap) top below = Opens (goes_on top place locals stack ∷ below) heap
move_by p (effect.Calls m args place locals stack heap) top below = called p m args (goes_on top place locals stack ∷ below) heap
move_by p (effect.Asks m args place locals stack heap) top below = Asks m args (goes_on top place locals stack ∷ below) heap
move_by p (effect.Returns value heap) top below = returned value below heap
move_by p (effect.Raises cause) top below = Raises cause
move_by p (effect.Throws object class cause) top below = Throws object class cause
move_by p (effect.Ends cause) top below = Ends cause
move_by p effect.Stuck top below = Stuck

unfoldable pub moves : Program → Activation → List Activation → Objects → Move
moves p top below heap = move_by p (effect_of p top heap) top below
