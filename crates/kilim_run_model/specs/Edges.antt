-- The machine at its edges: each fact beside its neighbour, where something else happens.
use Rattle.std.specs.Prelude.{◌≡◌, ℕ, suc, ◌+◌, ◌<◌, ◌≤◌, ◌∷◌, ℤ, pos, negsuc, List, [], Option, Some, None, length, count_by, ◌++◌, codes}
use Rattle.kilim_run_state.specs.declared.cause.EndCause.TheVariants.{Boxes, Depth, Done, Index, Large, Null, Spent, Tasks, Zero}
use Rattle.std.specs.FinMap.{insert}
use Rattle.kilim_program.specs.Program.{Program}
use Rattle.kilim_program.specs.declared.names.BoxName.{BoxName}
use Rattle.kilim_program.specs.declared.names.MethodId.{MethodId}
use Rattle.kilim_run_state.specs.declared.value.Object.{Object}
use Rattle.kilim_run_state.specs.declared.value.Token.{Token}
use Rattle.kilim_run_state.specs.declared.value.Token.TheVariants as token
use Rattle.kilim_program.specs.declared.value.Value.{Value}
use Rattle.kilim_program.specs.declared.value.Value.TheVariants as value
use Rattle.kilim_run_journal.specs.declared.entry.Act.TheVariants.{Take, Empty, Start, End}
use Rattle.kilim_run_state.specs.Machine.{Objects, Activation}
use Rattle.kilim_run_machine.specs.Moves.{called, entered, receiver_of, push_value, Enters}
use Rattle.kilim_run_machine.specs.Moves as move
use Rattle.kilim_run_machine.specs.Raising.{NoTables}
use Rattle.kilim_run_machine.specs.Natives as native
use Rattle.kilim_run_state.specs.Shapes.{value_tokens, tree_limit, is_open, shape_by, shape_of}
use Rattle.kilim_run_model.specs.State.{Setting, empty_mailbox, with_message, Alive, State, execute_frames, Mailbox, Thread, Ended}
use Rattle.kilim_run_model.specs.Lone.{Lone, Goes, Gets, went, pushed, ended, over, raised, native_next, opens_next, begins_next, finish_next, frames_next, thread_next, next_move, printed, Next, Ends, raises_by, raises_next, arg_at}
use Rattle.kilim_run_model.specs.Turn.{quiet, acted, lone_of, with_lone, gets, probes, starts, moved_by, Moved}
use Rattle.kilim_run_model.specs.Runs.{waits_at}

-- ---- limits

-- the 1,000th mailbox of a task, and the 1,001st
abbrev pub LastMailbox : Type 0
LastMailbox = (t : ℕ) (l : Lone) (frames : List Activation) (done : ℕ) →
    (opens_next t l frames done 999 ≡ Goes (went l (push_value (value.Box (record { task = t; number = 999 })) frames) done 1000)) × (opens_next t l frames done 1000 ≡ over l Boxes)

-- the 512th frame, and the 513th
abbrev pub LastFrame : Type 0
LastFrame = (p : Program) (m : MethodId) (args : List Value) (frames : List Activation) (heap : Objects) →
    (length frames ≡ 511 → called p m args frames heap ≡ move.Runs (Enters (receiver_of p m args)) (entered p m args ∷ frames) heap) × (length frames ≡ 512 → called p m args frames heap ≡ move.Ends Depth)

-- The 10,000th task, whose number is 9,999, and the 10,001st. A started task's number is how many there were.
abbrev pub LastTask : Type 0
LastTask = (setting : Setting) (s : State) (t root : ℕ) (shape : List Token) (after : Lone) →
    ((frames : List Activation) (n : ℕ) → execute_frames setting.program after.heap root ≡ Some frames → length s.threads ≡ n → n < 10000 → (starts setting s t root shape after).act ≡ Some (Start n shape))
    × (length s.threads ≡ 10000 → starts setting s t root shape after ≡ acted (with_lone s t (ended after Tasks)) (End Tasks))

-- a tree of 65,536 objects, and one of 65,537
abbrev pub LargestTree : Type 0
LargestTree = (p : Program) (look : ℕ → Option Object) (n : ℕ) (tokens : List Token) → value_tokens p look tree_limit (value.Ref n) ≡ Some tokens →
    (count_by is_open tokens ≡ 65536 → shape_by p look n ≡ Some tokens) × (count_by is_open tokens ≡ 65537 → shape_by p look n ≡ None)

-- The last instruction that a thread may do, and none: it is spent then, whatever it stands at.
abbrev pub LastStep : Type 0
LastStep = (setting : Setting) (t : ℕ) (l : Lone) (frames : List Activation) (done boxes : ℕ) →
    (suc done ≡ setting.limits.steps → thread_next setting t l (Alive frames done boxes) ≡ frames_next setting t l frames done boxes)
    × (setting.limits.steps ≤ done → thread_next setting t l (Alive frames done boxes) ≡ over l Spent)

-- ---- mailboxes

-- Messages wait in the order in which they were put, and are numbered so; the first is taken first.
abbrev pub FirstInFirstOut : Type 0
FirstInFirstOut = (a b : ℕ) → (with_message (with_message empty_mailbox a) b).queue ≡ (0, a) ∷ (1, b) ∷ []

abbrev pub FirstIsTaken : Type 0
FirstIsTaken = (s : State) (t : ℕ) (box : BoxName) (after : Lone) (a b : ℕ) →
    ((gets s t box after ((7, a) ∷ (8, b) ∷ [])).act ≡ Some (Take box 7)) × (((gets s t box after ((7, a) ∷ (8, b) ∷ [])).state.mailboxes box).queue ≡ (8, b) ∷ [])

-- At an empty mailbox `get` doesn't move; `getnb` gives null, and is an action.
abbrev pub EmptyMailbox : Type 0
EmptyMailbox = (s : State) (t : ℕ) (box : BoxName) (after : Lone) → (gets s t box after [] ≡ quiet s) × (probes s t box after [] ≡ acted (with_lone s t (pushed value.Null after)) (Empty box))

-- ---- causes, in their order

-- A null is raised whatever else; too large a tree ends the task, also where there are too many tasks.
abbrev pub NullThenLargeThenTasks : Type 0
NullThenLargeThenTasks = (setting : Setting) (s : State) (t : ℕ) (after : Lone) (box : BoxName) (n : ℕ) →
    (native_next setting after native.Put (value.Box box ∷ value.Null ∷ []) ≡ raised setting.program after Null)
    × (shape_of setting.program after.heap n ≡ None → native_next setting after native.Put (value.Box box ∷ value.Ref n ∷ []) ≡ over after Large)
    × (shape_of setting.program after.heap n ≡ None → moved_by setting s t (native_next setting after native.Start (value.Ref n ∷ [])) ≡ acted (with_lone s t (ended after Large)) (End Large))

-- the numbers of the command line: those that there are, one past the end, and one before the first
abbrev pub Arguments : Type 0
Arguments = (setting : Setting) (after : Lone) (a b : ℤ) → setting.limits.args ≡ a ∷ b ∷ [] →
    (native_next setting after native.Arg (value.Int (pos 1) ∷ []) ≡ Goes (pushed (value.Int b) after))
    × (native_next setting after native.Arg (value.Int (pos 2) ∷ []) ≡ raised setting.program after Index)
    × (native_next setting after native.Arg (value.Int (negsuc 0) ∷ []) ≡ raised setting.program after Index)
    × (native_next setting after native.ArgCount [] ≡ Goes (pushed (value.Int (pos 2)) after))

-- What is raised ends the task where no method has an exception table, by an instruction and by a built-in method; no object is made.
-- Where a frame is left, the object is there, and the task stands there.
abbrev pub RaisedEnds : Type 0
RaisedEnds = (setting : Setting) (s : State) (t : ℕ) (l : Lone) (object : Object) (top f : Activation) (below fs : List Activation) (done boxes : ℕ) →
    (NoTables setting.program → moved_by setting s t (raised setting.program l Null) ≡ acted (with_lone s t (ended l Null)) (End Null))
    × (NoTables setting.program → raises_next setting.program l done boxes top below Zero ≡ over l Zero)
    × (raises_by l object Null done boxes [] ≡ over l Null)
    × (raises_by l object Null done boxes (f ∷ fs) ≡ Goes (record l { heap = insert l.heap l.next object; next = l.next + 1; thread = Alive (f ∷ fs) done boxes }))

-- ---- beginnings and ends

-- A task is done where its last frame returns, but task 0's constructor begins `execute`: as the next instruction, and
-- where `execute` is the built-in one, the task is done.
abbrev pub Endings : Type 0
Endings = (setting : Setting) (t : ℕ) (l : Lone) (frame : Activation) (done boxes : ℕ) →
    (finish_next setting l done boxes None ≡ over l Done)
    × (begins_next l done boxes (Some (frame ∷ [])) ≡ Goes (record l { thread = Alive (frame ∷ []) (done + 1) boxes; kept = None }))
    × (begins_next l done boxes (Some []) ≡ over l Done)
    × (frames_next setting t l [] done boxes ≡ over l Done)

-- what is printed: a value of one token, and no object
abbrev pub Printed : Type 0
Printed = (n : ℕ) (x : ℤ) (units : List ℕ) →
    (printed (value.Int x) ≡ Some (token.Int x)) × (printed (value.Long x) ≡ Some (token.Long x)) × (printed (value.Text units) ≡ Some (token.Text units)) × (printed value.Null ≡ Some token.Null) × (printed (value.Ref n) ≡ None)

-- ---- who waits

-- a thread at a `get`: on an empty mailbox, and on one with a message; and one that has no instructions left
abbrev pub WhoWaits : Type 0
WhoWaits = (setting : Setting) (s : State) (t : ℕ) (box : BoxName) (frames : List Activation) (done boxes : ℕ) →
    ((after : Lone) → next_move setting t (lone_of s t (Alive frames done boxes)) ≡ Gets box after →
    ((s.mailboxes box).queue ≡ [] → waits_at setting s t (Alive frames done boxes) ≡ Some box)
    × ((first : ℕ × ℕ) (rest : List (ℕ × ℕ)) → (s.mailboxes box).queue ≡ first ∷ rest → waits_at setting s t (Alive frames done boxes) ≡ None))
    × (setting.limits.steps ≤ done → waits_at setting s t (Alive frames done boxes) ≡ None)

pub record EdgesHold : Type 0 where
  pub last_mailbox : LastMailbox
  pub last_frame : LastFrame
  pub last_task : LastTask
  pub largest_tree : LargestTree
  pub last_step : LastStep
  pub first_in_first_out : FirstInFirstOut
  pub first_is_taken : FirstIsTaken
  pub box_is_empty : EmptyMailbox
  pub null_then_large_then_tasks : NullThenLargeThenTasks
  pub arguments : Arguments
  pub raised_ends : RaisedEnds
  pub endings : Endings
  pub value_is_printed : Printed
  pub who_waits : WhoWaits
