-- What one thread does next: the one table of that. It is computed from the thread and the heap on which it works alone, and
-- leaves open what others decide. The shared machine (Turn) gives it the one heap, a thread on a heap of its own
-- (Course) has its own, and both follow what stands here.
--
--     a built-in method   with           what the thread does next
--     execute, yield                     goes on
--     put                 an object      puts its tree; a null is raised, too large a tree ends the task; others decide whether its mailbox is full
--     putw                an object      the same, but waits where the mailbox is full
--     Mailbox(int)        a bound        bounds the mailbox; one below 1 is raised
--     get, getnb                         gets, probes: others decide whether a message is there
--     start               a task object  starts it; too large a tree ends the task; others decide whether there are too many tasks
--     print               a value        prints its token
--     argCount, arg                      goes on with a number; an index past the end is raised
use Rattle.std.specs.Prelude.{ℕ, suc, ℤ, pos, negsuc, ◌+◌, ◌%◌, ◌^◌, nat_lt, nat_le, if◌then◌else◌, List, [], ◌∷◌, Option, Some, None, length, slice_get}
use Rattle.std.specs.Int.{w32, cast_signed}
use Rattle.std.specs.FinMap.{insert}
use Rattle.kilim_run_state.specs.declared.cause.EndCause.{EndCause}
use Rattle.kilim_run_state.specs.declared.cause.EndCause.TheVariants as cause
use Rattle.kilim_program.specs.Program.{Program}
use Rattle.kilim_program.specs.declared.names.BoxName.{BoxName}
use Rattle.kilim_program.specs.declared.names.ClassId.{ClassId}
use Rattle.kilim_run_state.specs.declared.value.Object.{Object}
use Rattle.kilim_run_state.specs.declared.value.Token.{Token}
use Rattle.kilim_run_state.specs.declared.value.Token.TheVariants as token
use Rattle.kilim_program.specs.declared.value.Value.{Value}
use Rattle.kilim_program.specs.declared.value.Value.TheVariants.{Int, Long, Null, Ref, Text, Box}
use Rattle.kilim_run_state.specs.Machine.{Objects, Activation}
use Rattle.kilim_program.specs.Members.{execute_of}
use Rattle.kilim_run_machine.specs.Natives.{Native, native_of}
use Rattle.kilim_run_machine.specs.Natives as native
use Rattle.kilim_run_machine.specs.Moves.{Move, moves, push_value}
use Rattle.kilim_run_machine.specs.Moves as move
use Rattle.kilim_run_machine.specs.Raising.{index_at, other_index, raised_class, thrown, unwound}
use Rattle.kilim_run_state.specs.Objects.{new_object}
use Rattle.kilim_run_state.specs.Shapes.{shape_of}
use Rattle.kilim_run_model.specs.State.{Setting, Thread, Alive, Ended, begun_on}
use Rattle.kilim_run_model.specs.declared.waits.Waits.{Waits}
use Rattle.kilim_run_model.specs.declared.waits.Waits.TheVariants as wait

-- the most mailboxes that a task makes
abbrev pub box_limit : ℕ
box_limit = 1000

-- a thread, and the heap on which it works
pub record Lone : Type 0 where
  pub heap : Objects
  -- the next object's name: no name is used twice
  pub next : ℕ
  pub thread : Thread
  -- the object of task 0, which it keeps until its `execute` begins
  pub kept : Option ℕ

-- What it does next. It goes on by itself; or it acts, and then stands as told but for what others decide: the result of a
-- take isn't on its stack yet, and a tree that leaves is still in the heap; or it stands still.
pub data Next : Type 0 where
  Goes : (after : Lone) → Next
  -- a put that ends the task where the mailbox is full, and one that waits there; and a mailbox gets a bound
  Puts : (box : BoxName) (root : ℕ) (shape : List Token) (after : Lone) → Next
  PutWaits : (box : BoxName) (root : ℕ) (shape : List Token) (after : Lone) → Next
  Bounds : (box : BoxName) (most : ℕ) (after : Lone) → Next
  Gets : (box : BoxName) (after : Lone) → Next
  Probes : (box : BoxName) (after : Lone) → Next
  Starts : (root : ℕ) (shape : List Token) (after : Lone) → Next
  Prints : (token : Token) (after : Lone) → Next
  Ends : (cause : EndCause) (after : Lone) → Next
  -- it has ended; or it is where no verified code comes
  Stands : Next

-- ---- how a thread stands then

-- it has done one more instruction, and stands at these frames
abbrev pub went : Lone → List Activation → ℕ → ℕ → Lone
went l frames done boxes = record l { thread = Alive frames (done + 1) boxes }

-- a value on top of its stack
abbrev pub pushed_on : Value → Thread → Thread
pushed_on v (Alive frames done boxes) = Alive (push_value v frames) done boxes
pushed_on v (Ended cause) = Ended cause

abbrev pub pushed : Value → Lone → Lone
pushed v l = record l { thread = pushed_on v l.thread }

-- a thread that has ended keeps nothing
abbrev pub ended : Lone → EndCause → Lone
ended l cause = record l { thread = Ended cause; kept = None }

abbrev pub over : Lone → EndCause → Next
over l cause = Ends cause (ended l cause)

-- ---- exceptions: where no frame is left the task ends, and nothing is made

-- with a new object, at these frames
abbrev pub made_at : Lone → Object → List Activation → ℕ → ℕ → Lone
made_at l object frames done boxes = record l { heap = insert l.heap l.next object; next = l.next + 1; thread = Alive frames done boxes }

-- an object is thrown, which goes to these frames
abbrev pub throws_by : Lone → EndCause → ℕ → ℕ → (left : List Activation) → Next
throws_by l why done boxes [] = over l why
throws_by l why done boxes (f ∷ fs) = Goes (record l { thread = Alive (f ∷ fs) done boxes })

-- a new object is
abbrev pub raises_by : Lone → Object → EndCause → ℕ → ℕ → (left : List Activation) → Next
raises_by l object why done boxes [] = over l why
raises_by l object why done boxes (f ∷ fs) = Goes (made_at l object (f ∷ fs) done boxes)

abbrev pub raises_of : Program → Lone → EndCause → ℕ → ℕ → (ClassId → List Activation) → Option ClassId → Next
raises_of p l why done boxes left None = over l why
raises_of p l why done boxes left (Some c) = raises_by l (new_object p c) why done boxes (left c)

-- Something is wrong with a value of the instruction at which the top frame stands. The instruction is counted.
abbrev pub raises_next : Program → Lone → ℕ → ℕ → Activation → List Activation → EndCause → Next
raises_next p l done boxes top below why = raises_of p l why (done + 1) boxes (λ c. thrown p c (Ref l.next) top below) (raised_class p (index_at p top) why)

-- something is wrong with a value of a built-in method, with the thread behind its call
abbrev pub raised_in : Program → Lone → EndCause → Thread → Next
raised_in p after why (Ended cause) = over after why
raised_in p after why (Alive frames done boxes) = raises_of p after why done boxes (λ c. unwound p c (Ref after.next) frames) (raised_class p other_index why)

abbrev pub raised : Program → Lone → EndCause → Next
raised p after why = raised_in p after why after.thread

-- ---- built-in methods, with the thread behind the call

abbrev pub put_next : Lone → BoxName → ℕ → Option (List Token) → Next
put_next after box n None = over after cause.Large
put_next after box n (Some shape) = Puts box n shape after

abbrev pub message_next : Program → Lone → BoxName → Value → Next
message_next p after box Null = raised p after cause.Null
message_next p after box (Ref n) = put_next after box n (shape_of p after.heap n)
message_next p after box v = Stands

abbrev pub put_wait_next : Lone → BoxName → ℕ → Option (List Token) → Next
put_wait_next after box n None = over after cause.Large
put_wait_next after box n (Some shape) = PutWaits box n shape after

abbrev pub wait_next : Program → Lone → BoxName → Value → Next
wait_next p after box Null = raised p after cause.Null
wait_next p after box (Ref n) = put_wait_next after box n (shape_of p after.heap n)
wait_next p after box v = Stands

-- a bound is at least 1
abbrev pub bound_next : Program → Lone → BoxName → ℤ → Next
bound_next p after box (pos (suc n)) = Bounds box (suc n) after
bound_next p after box n = raised p after cause.Size

abbrev pub start_next : Lone → ℕ → Option (List Token) → Next
start_next after n None = over after cause.Large
start_next after n (Some shape) = Starts n shape after

-- the token of a printed value
abbrev pub printed : Value → Option Token
printed (Int n) = Some (token.Int n)
printed (Long n) = Some (token.Long n)
printed Null = Some token.Null
printed (Text units) = Some (token.Text units)
printed v = None

abbrev pub print_next : Lone → Option Token → Next
print_next after None = Stands
print_next after (Some t) = Prints t after

-- the low 32 bits as a signed number
abbrev pub narrowed : ℕ → ℤ
narrowed n = cast_signed w32 (n % 2 ^ 32)

abbrev pub arg_at : List ℤ → ℤ → Option ℤ
arg_at args (pos i) = slice_get args i
arg_at args (negsuc i) = None

abbrev pub arg_next : Program → Lone → Option ℤ → Next
arg_next p after None = raised p after cause.Index
arg_next p after (Some n) = Goes (pushed (Int n) after)

-- The receiver is the first of the arguments, and isn't null. Other arguments than these don't come in verified code, nor
-- does a member of `kilim/Fiber` in code that isn't woven: the thread then stands still.
abbrev pub native_next : Setting → Lone → Native → List Value → Next
native_next setting after native.Execute (Ref n ∷ []) = Goes after
native_next setting after native.Start (Ref n ∷ []) = start_next after n (shape_of setting.program after.heap n)
native_next setting after native.Put (Box box ∷ message ∷ []) = message_next setting.program after box message
native_next setting after native.PutWait (Box box ∷ message ∷ []) = wait_next setting.program after box message
native_next setting after native.Bound (Box box ∷ Int n ∷ []) = bound_next setting.program after box n
native_next setting after native.Get (Box box ∷ []) = Gets box after
native_next setting after native.Getnb (Box box ∷ []) = Probes box after
native_next setting after native.Print (v ∷ []) = print_next after (printed v)
native_next setting after native.Yield [] = Goes after
native_next setting after native.ArgCount [] = Goes (pushed (Int (narrowed (length setting.limits.args))) after)
native_next setting after native.Arg (Int i ∷ []) = arg_next setting.program after (arg_at setting.limits.args i)
native_next setting after n args = Stands

abbrev pub asks_next : Setting → Lone → List Value → Option Native → Next
asks_next setting after args None = Stands
asks_next setting after args (Some n) = native_next setting after n args

-- ---- moves

-- a new mailbox, named by the task and its number among the task's mailboxes
abbrev pub opens_next : ℕ → Lone → List Activation → ℕ → ℕ → Next
opens_next t l frames done boxes =
    if nat_lt boxes box_limit then Goes (went l (push_value (Box (record { task = t; number = boxes })) frames) done (boxes + 1)) else over l cause.Boxes

-- Where the constructor of task 0 returns, the frame of `execute` begins on the object that it keeps; the
-- beginning counts as no instruction. Where `execute` is the built-in one, which has no frame, the task is done.
abbrev pub begins_next : Lone → ℕ → ℕ → Option (List Activation) → Next
begins_next l done boxes None = Stands
begins_next l done boxes (Some []) = over l cause.Done
begins_next l done boxes (Some (frame ∷ frames)) = Goes (record (went l (frame ∷ frames) done boxes) { kept = None })

-- the last frame returned: that of task 0's constructor, or that of `execute`
abbrev pub finish_next : Setting → Lone → ℕ → ℕ → Option ℕ → Next
finish_next setting l done boxes None = over l cause.Done
finish_next setting l done boxes (Some n) = begins_next l done boxes (begun_on setting.program (execute_of setting.program setting.main) n)

abbrev pub on_heap : Lone → Objects → Lone
on_heap l heap = record l { heap = heap }

-- `top` and `below` are the frames before the move
abbrev pub next_by : Setting → ℕ → Lone → ℕ → ℕ → Activation → List Activation → Move → Next
next_by setting t l done boxes top below (move.Runs change frames heap) = Goes (went (on_heap l heap) frames done boxes)
next_by setting t l done boxes top below (move.Makes object frames heap) =
    Goes (went (record l { heap = insert heap l.next object; next = l.next + 1 }) (push_value (Ref l.next) frames) done boxes)
next_by setting t l done boxes top below (move.Opens frames heap) = opens_next t (on_heap l heap) frames done boxes
next_by setting t l done boxes top below (move.Asks m args frames heap) = asks_next setting (went (on_heap l heap) frames done boxes) args (native_of setting.program m)
next_by setting t l done boxes top below (move.Returns heap) = finish_next setting (on_heap l heap) done boxes l.kept
next_by setting t l done boxes top below (move.Raises cause) = raises_next setting.program l done boxes top below cause
next_by setting t l done boxes top below (move.Throws n class cause) = throws_by l cause (done + 1) boxes (thrown setting.program class (Ref n) top below)
next_by setting t l done boxes top below (move.Ends cause) = over l cause
next_by setting t l done boxes top below move.Stuck = Stands

-- a task that was started with the built-in `execute` is done in its first move
abbrev pub frames_next : Setting → ℕ → Lone → List Activation → ℕ → ℕ → Next
frames_next setting t l [] done boxes = over l cause.Done
frames_next setting t l (top ∷ below) done boxes = next_by setting t l done boxes top below (moves setting.program top below l.heap)

-- A thread that has done all of its instructions is spent, before anything else is looked at.
abbrev pub thread_next : Setting → ℕ → Lone → Thread → Next
thread_next setting t l (Ended cause) = Stands
thread_next setting t l (Alive frames done boxes) = if nat_le setting.limits.steps done then over l cause.Spent else frames_next setting t l frames done boxes

-- what the thread of the task of that number does next
unfoldable pub next_move : Setting → ℕ → Lone → Next
next_move setting t l = thread_next setting t l l.thread

-- what it may have to wait for where it stands: at a `get`, or at a put that waits; it has instructions left then
abbrev pub get_at : Next → Option Waits
get_at (Gets box after) = Some (wait.Take box)
get_at (PutWaits box root shape after) = Some (wait.Put box)
get_at next = None
