-- What a woven fiber does next: the one table of that, computed from the fiber alone. It leaves open what others decide. The woven
-- machine of kilim_fiber_spec, which reads that from lists, and a fiber that is run both follow what stands here.
use Rattle.std.specs.Prelude.{ℕ, suc, ◌+◌, ℤ, pos, nat_lt, nat_le, Bool, true, false, not, ◌&&◌, if◌then◌else◌, List, ◌∷◌, Option, Some, None, length, []}
use Rattle.kilim_run_state.specs.Trees.{tree_names, without}
use Rattle.kilim_fiber_spec.specs.Acts.{Apart}
use Rattle.std.specs.FinMap.{insert}
use Rattle.kilim_program.specs.declared.class.Method.{Method}
use Rattle.kilim_program.specs.declared.instr.Instr.{Instr}
use Rattle.kilim_program.specs.declared.names.BoxName.{BoxName}
use Rattle.kilim_program.specs.declared.names.ClassId.{ClassId}
use Rattle.kilim_program.specs.declared.names.MethodId.{MethodId}
use Rattle.kilim_program.specs.declared.value.Value.{Value}
use Rattle.kilim_program.specs.declared.value.Value.TheVariants.{Int, Null, Ref, Box, Fiber}
use Rattle.kilim_program.specs.Names.{method_at}
use Rattle.kilim_program.specs.Program.{Program}
use Rattle.kilim_run_state.specs.declared.cause.EndCause.{EndCause}
use Rattle.kilim_run_state.specs.declared.cause.EndCause.TheVariants as cause
use Rattle.kilim_run_state.specs.declared.value.Token.{Token}
use Rattle.kilim_run_state.specs.Machine.{Objects, Activation}
use Rattle.kilim_program.specs.Members.{execute_of}
use Rattle.kilim_run_machine.specs.Moves.{Move, moves, entered, push_value, push_result}
use Rattle.kilim_run_machine.specs.Moves as move
use Rattle.kilim_run_machine.specs.Natives.{Native, FiberMember, native_of}
use Rattle.kilim_run_machine.specs.Natives as native
use Rattle.kilim_run_machine.specs.Raising.{index_at, other_index, raised_class, thrown, unwound}
use Rattle.kilim_run_state.specs.Objects.{new_object}
use Rattle.kilim_run_state.specs.declared.value.Object.{Object}
use Rattle.kilim_run_state.specs.Shapes.{shape_of}
use Rattle.kilim_run_model.specs.State.{Setting}
use Rattle.kilim_run_model.specs.Lone.{box_limit, printed, narrowed, arg_at}
use Rattle.kilim_fiber_spec.specs.Fibers.{executes_on, first_receiver, is_pausing, is_rewinding, member_does, pausing, resumed, rewound, wfetch}
use Rattle.kilim_fiber_laws.specs.woven_kin.Standing.{Standing}

-- It goes on by itself, or acts, and then stands as told but for what others decide: the result of a take isn't on its stack yet, and
-- a tree that leaves is still in the heap. At a `get` it either pauses, if the mailbox is empty, or takes. Where its last frame returns
-- while it pauses, it rests. Or it is where no verified code comes.
pub data Next : Type 0 where
  Goes : (after : Standing) → Next
  Puts : (box : BoxName) (root : ℕ) (shape : List Token) (after : Standing) → Next
  -- A put that waits: while it pauses, its tree leaves the heap and stands apart. And one that is made again, whose tree stands apart: `full`
  -- has it in its heap.
  PutWaits : (box : BoxName) (root : ℕ) (shape : List Token) (paused after : Standing) → Next
  PutsAgain : (box : BoxName) (root : ℕ) (shape : List Token) (full paused after : Standing) → Next
  Bounds : (box : BoxName) (most : ℕ) (after : Standing) → Next
  Gets : (box : BoxName) (paused after : Standing) → Next
  Probes : (box : BoxName) (after : Standing) → Next
  Starts : (root : ℕ) (shape : List Token) (after : Standing) → Next
  Prints : (token : Token) (after : Standing) → Next
  Rests : (after : Standing) → Next
  Ends : (cause : EndCause) → Next
  Stands : Next

-- ---- how it stands then

abbrev pub counted : Standing → Standing
counted l = record l { done = l.done + 1 }

-- an instruction counts or not
abbrev pub ticked : Bool → Standing → Standing
ticked true l = counted l
ticked false l = l

abbrev pub with_result : Option Value → Standing → Standing
with_result v l = record l { frames = push_result v l.frames }

-- A counted instruction is done where instructions are left.
abbrev pub spent_or : Setting → Bool → ℕ → Next → Next
spent_or set counts done next = if counts && nat_le set.limits.steps done then Ends cause.Spent else next

-- ---- exceptions: what is raised or thrown goes to the frames that are left

-- where none is, the task ends
abbrev pub thrown_to : Standing → EndCause → (left : List Activation) → Next
thrown_to l why [] = Ends why
thrown_to l why (f ∷ fs) = Goes (record l { frames = f ∷ fs })

-- a new object is there
abbrev pub with_new : Standing → Object → Standing
with_new l object = record l { heap = insert l.heap l.next object; next = l.next + 1 }

-- an object of that class is made, but only where it is caught
abbrev pub raises : Program → Standing → EndCause → (ClassId → List Activation) → Option ClassId → Next
raises W l why left None = Ends why
raises W l why left (Some c) = thrown_to (with_new l (new_object W c)) why (left c)

-- ---- built-in methods, with the fiber behind the call, which isn't counted yet

-- something is wrong with a value
abbrev pub raised : Program → Standing → EndCause → Next
raised W l why = raises W (counted l) why (λ c. unwound W c (Ref l.next) l.frames) (raised_class W other_index why)

abbrev pub put_next : Standing → BoxName → ℕ → Option (List Token) → Next
put_next l box n None = Ends cause.Large
put_next l box n (Some shape) = Puts box n shape (counted l)

abbrev pub message_next : (p W : Program) → Standing → BoxName → Value → Next
message_next p W l box Null = raised W l cause.Null
message_next p W l box (Ref n) = put_next l box n (shape_of p l.heap n)
message_next p W l box v = Stands

-- a bound is at least 1
abbrev pub bound_next : Program → Standing → BoxName → ℤ → Next
bound_next W l box (pos (suc n)) = Bounds box (suc n) (counted l)
bound_next W l box n = raised W l cause.Size

abbrev pub start_next : Standing → ℕ → Option (List Token) → Next
start_next l n None = Ends cause.Large
start_next l n (Some shape) = Starts n shape (counted l)

abbrev pub print_next : Standing → Option Token → Next
print_next l None = Stands
print_next l (Some token) = Prints token (counted l)

abbrev pub arg_next : Program → Standing → Option ℤ → Next
arg_next W l None = raised W l cause.Index
arg_next W l (Some n) = Goes (with_result (Some (Int n)) (counted l))

-- a `get` of a mailbox, which a task that has done its instructions doesn't make any more
abbrev pub paused_at : BoxName → Standing → Standing
paused_at box l = record l { frames = push_value Null l.frames; fiber = pausing (Box box) l.fiber }

abbrev pub taken_at : Standing → Standing
taken_at l = record (counted l) { fiber = rewound l.fiber }

-- a put that waits, where its mailbox is full
abbrev pub waiting_at : BoxName → Standing → Standing
waiting_at box l = record l { fiber = pausing (Box box) l.fiber }

-- a tree leaves the heap, and stands apart
abbrev pub apart_at : Program → ℕ → List Token → Standing → Standing
apart_at p n shape l = record l { heap = without l.heap (tree_names p l.heap n); aside = record { root = n; shape = shape; heap = l.heap } ∷ l.aside }

abbrev pub put_wait_next : Program → Standing → BoxName → ℕ → Option (List Token) → Next
put_wait_next p l box n None = Ends cause.Large
put_wait_next p l box n (Some shape) = PutWaits box n shape (waiting_at box l) (taken_at l)

abbrev pub wait_next : (p W : Program) → Standing → BoxName → Value → Next
wait_next p W l box Null = raised W l cause.Null
wait_next p W l box (Ref n) = put_wait_next p l box n (shape_of p l.heap n)
wait_next p W l box v = Stands

abbrev pub first_wait : (p W : Program) → Standing → Value → Value → Next
first_wait p W l (Box box) message = wait_next p W l box message
first_wait p W l v message = Stands

abbrev pub wait_again : Setting → Standing → Value → List Apart → Next
wait_again set l (Box box) (kept ∷ others) =
    spent_or set true l.done (PutsAgain box kept.root kept.shape (taken_at (record l { heap = kept.heap; aside = others })) (waiting_at box l) (taken_at (record l { aside = others })))
wait_again set l v kept = Stands

abbrev pub putw_next : Setting → Program → Bool → Standing → Value → Value → Next
putw_next set W true l v message = wait_again set l v l.aside
putw_next set W false l v message = spent_or set true l.done (first_wait set.program W l v message)

-- a `yield` made again returns; one that is made counts and pauses
abbrev pub yield_next : Bool → Standing → Next
yield_next true l = Goes (record l { fiber = rewound l.fiber })
yield_next false l = Goes (record (counted l) { fiber = pausing Null l.fiber })

-- a member of `kilim/Fiber`
abbrev pub member_next : FiberMember → List Value → Standing → Next
member_next member args l = member_does Stands (λ f v. Goes (record l { fiber = f; frames = push_result v l.frames })) member args l.fiber

abbrev pub get_next : Standing → Value → Next
get_next l (Box box) = Gets box (paused_at box l) (taken_at l)
get_next l v = Stands

-- The receiver is the first of the arguments, and isn't null; those that can pause have the fiber as their last one. Other
-- arguments than these don't come in verified code. Shapes are those of the program that was woven.
abbrev pub native_next : Setting → Program → Standing → Native → List Value → Next
native_next set W l native.Execute (Ref n ∷ Fiber ∷ []) = Goes (counted l)
native_next set W l native.Start (Ref n ∷ []) = start_next l n (shape_of set.program l.heap n)
native_next set W l native.Put (Box box ∷ message ∷ []) = message_next set.program W l box message
native_next set W l native.PutWait (v ∷ message ∷ Fiber ∷ []) = putw_next set W (is_rewinding l.fiber) l v message
native_next set W l native.Bound (Box box ∷ Int n ∷ []) = bound_next W l box n
native_next set W l native.Get (v ∷ Fiber ∷ []) = spent_or set true l.done (get_next l v)
native_next set W l native.Getnb (Box box ∷ []) = Probes box (counted l)
native_next set W l native.Print (v ∷ []) = print_next l (printed v)
native_next set W l native.Yield (Fiber ∷ []) = yield_next (is_rewinding l.fiber) l
native_next set W l native.ArgCount [] = Goes (with_result (Some (Int (narrowed (length set.limits.args)))) (counted l))
native_next set W l native.Arg (Int i ∷ []) = arg_next W l (arg_at set.limits.args i)
native_next set W l (native.OfFiber member) args = member_next member args l
native_next set W l n args = Stands

abbrev pub asks_next : Setting → Program → Standing → List Value → Option Native → Next
asks_next set W l args None = Stands
asks_next set W l args (Some n) = native_next set W l n args

-- ---- moves

-- a new mailbox, named by the task and its number among the task's mailboxes
abbrev pub opens_next : ℕ → Bool → Standing → Next
opens_next t counts l =
    if nat_lt l.boxes box_limit then Goes (ticked counts (record l { frames = push_value (Box (record { task = t; number = l.boxes })) l.frames; boxes = l.boxes + 1 })) else Ends cause.Boxes

-- the frames with which a method begins: none where it is built in
abbrev pub begun_in : Program → MethodId → List Value → Option Method → Option (List Activation)
begun_in W m args None = None
begun_in W m args (Some method) = Some (if method.built_in then [] else entered W m args ∷ [])

abbrev pub begun_with : Program → Option MethodId → List Value → Option (List Activation)
begun_with W None args = None
begun_with W (Some m) args = begun_in W m args (method_at W m)

-- The constructor of task 0 returned: `execute` begins on the object that it kept. Where it is the built-in one, the task is done.
abbrev pub begins_next : Standing → Option (List Activation) → Next
begins_next l None = Stands
begins_next l (Some []) = Ends cause.Done
begins_next l (Some (frame ∷ frames)) = Goes (record (counted l) { frames = frame ∷ frames; kept = None })

-- the last frame returned
abbrev pub finish_next : Setting → Program → Standing → Option ℕ → Next
finish_next set W l None = if is_pausing l.fiber then Rests (record l { frames = [] }) else Ends cause.Done
finish_next set W l (Some n) = begins_next l (begun_with W (execute_of W set.main) (Ref n ∷ Fiber ∷ []))

abbrev pub stood : Standing → List Activation → Objects → Standing
stood l frames heap = record l { frames = frames; heap = heap }

-- `top` and `below` are the frames before the move
abbrev pub next_by : Setting → Program → ℕ → Bool → Standing → Activation → List Activation → Move → Next
next_by set W t counts l top below (move.Runs change frames heap) = Goes (ticked counts (stood l frames heap))
next_by set W t counts l top below (move.Makes object frames heap) =
    Goes (ticked counts (record l { frames = push_value (Ref l.next) frames; heap = insert heap l.next object; next = l.next + 1 }))
next_by set W t counts l top below (move.Opens frames heap) = opens_next t counts (stood l frames heap)
next_by set W t counts l top below (move.Asks m args frames heap) = asks_next set W (stood l frames heap) args (native_of W m)
next_by set W t counts l top below (move.Returns heap) = finish_next set W (record l { heap = heap }) l.kept
next_by set W t counts l top below (move.Raises why) = raises W (ticked counts l) why (λ c. thrown W c (Ref l.next) top below) (raised_class W (index_at W top) why)
next_by set W t counts l top below (move.Throws n c why) = thrown_to (ticked counts l) why (thrown W c (Ref n) top below)
next_by set W t counts l top below (move.Ends cause) = Ends cause
next_by set W t counts l top below move.Stuck = Stands

-- An instruction counts where it is marked, and the fiber isn't rewinding.
abbrev pub found_next : Setting → Program → ℕ → Standing → Activation → List Activation → Option (Instr × ℕ × Bool) → Next
found_next set W t l top below None = Stands
found_next set W t l top below (Some found) =
    let counts = found.2 && not (is_rewinding l.fiber) in
    spent_or set counts l.done (next_by set W t counts l top below (moves W top below l.heap))

-- where it rests, it goes on with `execute`, and rewinds
abbrev pub resumes_next : Program → Standing → Option MethodId → Next
resumes_next W l None = Stands
resumes_next W l (Some m) = Goes (record l { frames = entered W m (first_receiver l.fiber ∷ Fiber ∷ []) ∷ []; fiber = resumed l.fiber })

abbrev pub next_in : Setting → Program → List (List Bool) → ℕ → Standing → List Activation → Next
next_in set W marks t l [] = resumes_next W l (executes_on W l.heap (first_receiver l.fiber))
next_in set W marks t l (top ∷ below) = found_next set W t l top below (wfetch set W marks top.method top.place)

-- what the fiber of the task of that number does next; W is the woven program, with its marks
unfoldable pub next_of : Setting → Program → List (List Bool) → ℕ → Standing → Next
next_of set W marks t l = next_in set W marks t l l.frames
