-- What a task does to others, read from a list of deeds; and what it has beside its frames.
use Rattle.std.specs.Prelude.{ℕ, suc, ◌+◌, nat_lt, nat_le, if◌then◌else◌, ℤ, pos, List, [], ◌∷◌, Option, Some, None, length}
use Rattle.std.specs.FinMap.{insert}
use Rattle.kilim_run_state.specs.declared.cause.EndCause.{EndCause}
use Rattle.kilim_run_state.specs.declared.cause.EndCause.TheVariants as cause
use Rattle.kilim_program.specs.declared.names.BoxName.{BoxName}
use Rattle.kilim_program.specs.declared.names.ClassId.{ClassId}
use Rattle.kilim_program.specs.Program.{Program}
use Rattle.kilim_run_state.specs.declared.value.Object.{Object}
use Rattle.kilim_run_state.specs.declared.value.Token.{Token}
use Rattle.kilim_program.specs.declared.value.Value.{Value}
use Rattle.kilim_program.specs.declared.value.Value.TheVariants.{Int, Null, Ref, Box}
use Rattle.kilim_run_state.specs.Machine.{Objects}
use Rattle.kilim_run_state.specs.Objects.{new_object}
use Rattle.kilim_run_machine.specs.Natives.{Native}
use Rattle.kilim_run_machine.specs.Natives as native
use Rattle.kilim_run_journal.specs.declared.entry.Act.{Act}
use Rattle.kilim_run_journal.specs.declared.entry.Act.TheVariants.{Bound, Put, Take, Empty, Start, Print, End}
use Rattle.kilim_run_model.specs.State.{Setting}
use Rattle.kilim_run_model.specs.declared.deed.Deed.{Deed}
use Rattle.kilim_run_state.specs.Shapes.{shape_of}
use Rattle.kilim_run_model.specs.Lone.{box_limit, printed, narrowed, arg_at}
use Rattle.kilim_run_state.specs.Trees.{OfMessage, tree_names, without, with_objects, built}

-- ---- the world of a task

-- a tree that stands apart while it waits to be put: its root, its shape, and the heap with it
pub record Apart : Type 0 where
  pub root : ℕ
  pub shape : List Token
  pub heap : Objects

-- what a task has beside its frames
pub record World : Type 0 where
  pub task : ℕ
  pub heap : Objects
  -- the next object's name
  pub next : ℕ
  -- the object of task 0, which it keeps until its `execute` begins
  pub kept : Option ℕ
  -- the deeds that are still to come: what others decide is read from them
  pub deeds : List Deed
  -- the acts that it did, the last one first
  pub acts : List Act
  -- instructions done, and mailboxes made
  pub done : ℕ
  pub boxes : ℕ
  -- what stands apart while a put waits
  pub aside : List Apart

-- what a task wants of others next; `root` is the object whose tree is put or started
pub data Action : Type 0 where
  Puts : (box : BoxName) (root : ℕ) (shape : List Token) → Action
  PutWaits : (box : BoxName) (root : ℕ) (shape : List Token) → Action
  Bounds : (box : BoxName) (most : ℕ) → Action
  Gets : (box : BoxName) → Action
  Probes : (box : BoxName) → Action
  Starts : (root : ℕ) (shape : List Token) → Action
  Prints : (token : Token) → Action
  Ends : (cause : EndCause) → Action

-- How a run is over. An action for which no deed is left is an end that shows the action.
pub data Over : Type 0 where
  -- right before that action, which no deed answers any more
  Wants : (action : Action) (world : World) → Over
  -- ended, by the last deed
  Finished : (cause : EndCause) (world : World) → Over
  -- the next deed is of another kind
  Astray : Over
  -- what no verified code does
  Lost : Over

abbrev pub counted : World → World
counted w = record w { done = w.done + 1 }

abbrev pub with_heap : World → Objects → World
with_heap w heap = record w { heap = heap }

-- ---- actions: `go` goes on with a result, if there is one; `over` ends

module _ {S : Type 0} (set : Setting) (w : World) (over : Over → S) where
  -- the next deed
  abbrev pub acting : Action → (Deed → List Deed → S) → S
  acting action go = elim w.deeds [ [] ↦ over (Wants action w) | deed ∷ rest ↦ go deed rest ]

  -- nothing comes behind an end
  abbrev pub last : EndCause → List Deed → S
  last cause [] = over (Finished cause w)
  last cause (deed ∷ rest) = over Astray

  abbrev pub ending : EndCause → S
  ending cause = acting (Ends cause) (λ deed rest. last cause rest)

  -- a thread that has done its instructions is spent, before anything else is looked at
  abbrev pub spending : S → S
  spending go = if nat_le set.limits.steps w.done then ending cause.Spent else go

  -- the world behind an act
  abbrev pub behind : Act → List Deed → World
  behind act rest = record (counted w) { deeds = rest; acts = act ∷ w.acts }

  -- without a tree
  abbrev pub gave : ℕ → Act → List Deed → World
  gave n act rest = record (behind act rest) { heap = without w.heap (tree_names set.program w.heap n) }

  module _ (go : World → Option Value → S) where
    -- others decide the number of a put, or that its mailbox is full, and the number of a start, or that there are too many tasks
    abbrev pub put_by : BoxName → List Token → ℕ → Act → List Deed → S
    put_by box shape n (Put b k s) rest = go (gave n (Put box k shape) rest) None
    put_by box shape n (End c) rest = last cause.Full rest
    put_by box shape n act rest = over Astray

    abbrev pub puts : BoxName → ℕ → Option (List Token) → S
    puts box n None = ending cause.Large
    puts box n (Some shape) = acting (Puts box n shape) (λ deed rest. put_by box shape n deed.act rest)

    -- of a put that waits others decide the number alone
    abbrev pub put_wait_by : BoxName → List Token → ℕ → Act → List Deed → S
    put_wait_by box shape n (Put b k s) rest = go (gave n (Put box k shape) rest) None
    put_wait_by box shape n act rest = over Astray

    abbrev pub put_waits : BoxName → ℕ → Option (List Token) → S
    put_waits box n None = ending cause.Large
    put_waits box n (Some shape) = acting (PutWaits box n shape) (λ deed rest. put_wait_by box shape n deed.act rest)

    abbrev pub start_by : List Token → ℕ → Act → List Deed → S
    start_by shape n (Start t s) rest = go (gave n (Start t shape) rest) None
    start_by shape n (End c) rest = last cause.Tasks rest
    start_by shape n act rest = over Astray

    abbrev pub starts : ℕ → Option (List Token) → S
    starts n None = ending cause.Large
    starts n (Some shape) = acting (Starts n shape) (λ deed rest. start_by shape n deed.act rest)

    -- a tree of the shape in the deed comes, under names that the heap never had
    abbrev pub receives : Act → List Deed → Option (List Object) → S
    receives act rest None = over Astray
    receives act rest (Some objects) = go (record (behind act rest) { heap = with_objects w.heap w.next objects; next = w.next + length objects }) (Some (Ref w.next))

    abbrev pub take_by : BoxName → List Token → Act → List Deed → S
    take_by box taken (Take b k) rest = receives (Take box k) rest (built set.program OfMessage w.next taken)
    take_by box taken act rest = over Astray

    abbrev pub takes : BoxName → S
    takes box = acting (Gets box) (λ deed rest. take_by box deed.taken deed.act rest)

    abbrev pub probe_by : BoxName → List Token → Act → List Deed → S
    probe_by box taken (Empty b) rest = go (behind (Empty box) rest) (Some Null)
    probe_by box taken act rest = take_by box taken act rest

    abbrev pub probes : BoxName → S
    probes box = acting (Probes box) (λ deed rest. probe_by box deed.taken deed.act rest)

    abbrev pub prints : Option Token → S
    prints None = over Lost
    prints (Some t) = acting (Prints t) (λ deed rest. go (behind (Print (t ∷ [])) rest) None)

    -- a new object, a new mailbox
    abbrev pub makes : Object → World → S
    makes object after = go (record after { heap = insert after.heap w.next object; next = w.next + 1 }) (Some (Ref w.next))

    abbrev pub opens_box : World → S
    opens_box after = if nat_lt w.boxes box_limit then go (record after { boxes = w.boxes + 1 }) (Some (Box (record { task = w.task; number = w.boxes }))) else ending cause.Boxes

    -- something may be wrong with a value of a built-in method: `raise` goes on with what is raised
    module _ (raise : EndCause → S) where
      abbrev pub puts_value : BoxName → Value → S
      puts_value box Null = raise cause.Null
      puts_value box (Ref n) = puts box n (shape_of set.program w.heap n)
      puts_value box v = over Lost

      abbrev pub waits_value : BoxName → Value → S
      waits_value box Null = raise cause.Null
      waits_value box (Ref n) = put_waits box n (shape_of set.program w.heap n)
      waits_value box v = over Lost

      -- a bound is at least 1
      abbrev pub bounds : BoxName → ℤ → S
      bounds box (pos (suc n)) = acting (Bounds box (suc n)) (λ deed rest. go (behind (Bound box (suc n)) rest) None)
      bounds box n = raise cause.Size

      abbrev pub gives_arg : Option ℤ → S
      gives_arg None = raise cause.Index
      gives_arg (Some n) = go (counted w) (Some (Int n))

      -- a built-in method does its work with its arguments; the receiver is the first of them
      abbrev pub native_does : Native → List Value → S
      native_does native.Execute (Ref n ∷ []) = go (counted w) None
      native_does native.Start (Ref n ∷ []) = starts n (shape_of set.program w.heap n)
      native_does native.Put (Box box ∷ message ∷ []) = puts_value box message
      native_does native.PutWait (Box box ∷ message ∷ []) = waits_value box message
      native_does native.Bound (Box box ∷ Int n ∷ []) = bounds box n
      native_does native.Get (Box box ∷ []) = takes box
      native_does native.Getnb (Box box ∷ []) = probes box
      native_does native.Print (v ∷ []) = prints (printed v)
      native_does native.Yield [] = go (counted w) None
      native_does native.ArgCount [] = go (counted w) (Some (Int (narrowed (length set.limits.args))))
      native_does native.Arg (Int i ∷ []) = gives_arg (arg_at set.limits.args i)
      native_does n args = over Lost

      abbrev pub asks : Option Native → List Value → S
      asks None args = over Lost
      asks (Some n) args = native_does n args

-- ---- exceptions: what is raised or thrown goes to the frames that are left, the top one first

-- a new object is there
abbrev pub with_new : World → Object → World
with_new w object = record w { heap = insert w.heap w.next object; next = w.next + 1 }

-- `w` has counted the instruction; `stands` goes on at frames.
module _ {S F : Type 0} (set : Setting) (over : Over → S) (stands : F → List F → World → S) (w : World) (why : EndCause) where
  -- where no frame is left, the task ends
  abbrev pub thrown_to : World → List F → S
  thrown_to after [] = ending set w over why
  thrown_to after (f ∷ fs) = stands f fs after

  -- an object of that class is made, but only where it is caught
  abbrev pub raises : Program → (ClassId → List F) → Option ClassId → S
  raises p left None = ending set w over why
  raises p left (Some c) = thrown_to (with_new w (new_object p c)) (left c)

-- ---- a put that waits

-- the tree leaves the heap, and stands apart
abbrev pub apart : Setting → ℕ → List Token → World → World
apart set n shape w = record w { heap = without w.heap (tree_names set.program w.heap n); aside = record { root = n; shape = shape; heap = w.heap } ∷ w.aside }

-- and the heap has it again
abbrev pub together : Objects → List Apart → World → World
together was others w = record w { heap = was; aside = others }
