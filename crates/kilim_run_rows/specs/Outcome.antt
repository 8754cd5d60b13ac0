-- What the code answers of an instruction, against what the table says of it.
use Rattle.std.specs.Prelude.{◌≡◌, ℕ, suc, ◌<◌, ◌≤◌, ℤ, pos, negsuc, Bool, true, false, List, [], ◌∷◌, Option, None, Some, length, take, drop, reverse}
use Rattle.std.specs.FinMap.{get, insert}
use Rattle.kilim_program.specs.declared.class.Method.{Method}
use Rattle.kilim_program.specs.declared.value.Value.{Value}
use Rattle.kilim_program.specs.declared.value.Value.TheVariants.{Ref}
use Rattle.kilim_run_state.specs.declared.value.Object.{Object}
use Rattle.kilim_run_state.specs.Machine.{Objects}
use Rattle.kilim_run_machine.specs.Does.{narrowed_result}
use Rattle.kilim_run_machine.specs.Effect.{Effect, Goes, Makes, Opens, Calls, Asks, Returns, Raises, Throws, Ends, Stuck}
use Rattle.kilim_run_state.specs.Words.{element_at}
use Rattle.kilim_run_state.specs.declared.frames.frame.Frame.{Frame}
use Rattle.kilim_run_rows.specs.declared.outcome.Moved.{Moved}
use Rattle.kilim_run_rows.specs.declared.outcome.Moved.TheVariants.{Next, Jump, Made, Opened, Called, Asked, Returned, ReturnedValue, Raised, Thrown, Ended, NoMemory}

abbrev pub is_stuck : Effect → Bool
is_stuck (Goes place locals stack heap) = false
is_stuck (Makes object place locals stack heap) = false
is_stuck (Opens place locals stack heap) = false
is_stuck (Calls m args place locals stack heap) = false
is_stuck (Asks m args place locals stack heap) = false
is_stuck (Returns value heap) = false
is_stuck (Raises cause) = false
is_stuck (Throws object class cause) = false
is_stuck (Ends cause) = false
is_stuck Stuck = true

-- how many values there are on the stack behind the instruction, with what is made
abbrev pub height : Effect → ℕ
height (Goes place locals stack heap) = length stack
height (Makes object place locals stack heap) = suc (length stack)
height (Opens place locals stack heap) = suc (length stack)
height (Calls m args place locals stack heap) = length stack
height (Asks m args place locals stack heap) = length stack
height (Returns value heap) = 0
height (Raises cause) = 0
height (Throws object class cause) = 0
height (Ends cause) = 0
height Stuck = 0

-- the value that a method returns: the topmost, narrowed to its result
abbrev pub returned_by : Method → List Value → Option Value
returned_by own [] = None
returned_by own (v ∷ rest) = Some (narrowed_result own.result v)

-- The effect is that of a new object, which was added under a name that wasn't used, and the name is on top of the stack.
pub record IsMade (e : Effect) (next at : ℕ) (frame : Frame) (old new : Objects) : Type 0 where
  pub object : Object
  pub rest : List Value
  pub stack : frame.stack.values ≡ Ref at ∷ rest
  pub is : e ≡ Makes object next frame.locals rest old
  pub fresh : get old at ≡ None
  pub added : new ≡ insert old at object

-- an object was added to the heap, and its name put on top of the stack
pub record IsAdded (at : ℕ) (object : Object) (before after : Frame) (old new : Objects) : Type 0 where
  pub stack : after.stack.values ≡ Ref at ∷ before.stack.values
  pub locals : after.locals ≡ before.locals
  pub fresh : get old at ≡ None
  pub added : new ≡ insert old at object

-- nothing was done
pub record IsStill (before after : Frame) (old new : Objects) : Type 0 where
  pub frame : after ≡ before
  pub heap : new ≡ old

-- That effect is the one that an outcome tells, with the frame and the heap before and after it. Where the task raises or ends, the heap
-- stays as it was. Want of memory tells nothing.
abbrev pub Shows : Method → Effect → ℕ → Moved → Frame → Frame → Objects → Objects → Type 0
Shows own e next Next before after old new = e ≡ Goes next after.locals after.stack.values new
Shows own e next (Jump to) before after old new = e ≡ Goes to after.locals after.stack.values new
Shows own e next (Made at) before after old new = IsMade e next at after old new
Shows own e next Opened before after old new = (e ≡ Opens next after.locals after.stack.values new) × IsStill before after old new
Shows own e next (Called m n) before after old new =
    (n ≤ length after.stack.values) × (e ≡ Calls m (reverse (take n after.stack.values)) next after.locals (drop n after.stack.values) new) × IsStill before after old new
Shows own e next (Asked m n) before after old new =
    (n ≤ length after.stack.values) × (e ≡ Asks m (reverse (take n after.stack.values)) next after.locals (drop n after.stack.values) new) × IsStill before after old new
Shows own e next Returned before after old new = (e ≡ Returns None new) × IsStill before after old new
Shows own e next ReturnedValue before after old new = (0 < length after.stack.values) × (e ≡ Returns (returned_by own after.stack.values) new) × IsStill before after old new
Shows own e next (Raised cause) before after old new = (e ≡ Raises cause) × (new ≡ old) × (after.locals ≡ before.locals) × (after.pc ≡ before.pc)
Shows own e next (Thrown at class cause) before after old new = (e ≡ Throws at class cause) × (new ≡ old) × (after.locals ≡ before.locals) × (after.pc ≡ before.pc)
Shows own e next (Ended cause) before after old new = (e ≡ Ends cause) × (new ≡ old)
Shows own e next NoMemory before after old new = Unit {0}

-- the frame is of the same method, and its stack has the same room
pub record SameFrame (old new : Frame) : Type 0 where
  pub method : new.method ≡ old.method
  pub room : new.stack.room ≡ old.stack.room

-- an element of an array in a heap, by an int
abbrev pub found_in : Objects → ℕ → ℤ → Option Value
found_in heap at (negsuc i) = None
found_in heap at (pos i) = element_at heap at i
