-- What the board of tasks stands for.
use Rattle.std.specs.Prelude.{◌≡◌, ℕ, zero, suc, ◌+◌, ◌-◌, Bool, true, false, not, ◌==◌, if◌then◌else◌, List, [], ◌∷◌, ◌++◌, Option, Some, None, length, slice_get, slice_set, ◌<◌, slice_index_or, is_some}
use Rattle.std.specs.List.{AllByRecursion}
use Rattle.kilim_run_state.specs.declared.cause.EndCause.{EndCause}
use Rattle.kilim_program.specs.Program.{Program}
use Rattle.kilim_program.specs.declared.names.BoxName.{BoxName}
use Rattle.kilim_run_state.specs.declared.value.Token.{Token}
use Rattle.kilim_run_journal.specs.declared.entry.Act.{Act}
use Rattle.kilim_run_journal.specs.declared.entry.Act.TheVariants.{Put, Take, Start, End, Bound}
use Rattle.kilim_run_journal.specs.declared.entry.Entry.{Entry}
use Rattle.kilim_run_model.specs.State.{Setting, bounded, with_mailbox, with_message, with_queue}
use Rattle.kilim_run_model.specs.Runs.{wait_entry}
use Rattle.kilim_run_board.specs.declared.waiting.parked.Waiter.{Waiter}
use Rattle.kilim_run_board.specs.Places.{Ready, Lent, Parked, Place, Stood}
use Rattle.kilim_run_board.specs.waiting.Mailboxes.{Tree, Mail, Post, SameMails}
use Rattle.kilim_run_board.specs.waiting.Parked.{StandsBehind, woken, ready_after, parked_after}
use Rattle.kilim_run_board.specs.fibers.Wishes.{IsMessage}
use Rattle.kilim_run_board.specs.fibers.Fibers.{StandsFor}
use Rattle.kilim_run_model.specs.Lone.{Lone}
use Rattle.kilim_run_model.specs.Course.{Course, has_ended, stands_at}
use Rattle.kilim_run_model.specs.Moving.{Books, Moving, MovedReplay}
use Rattle.kilim_run_model.specs.declared.waits.Waits.{Waits}
use Rattle.kilim_run_model.specs.declared.waits.Waits.TheVariants as wait

-- ---- the board as contracts see it

pub record Board (F : Type 0) : Type 0 where
  pub journal : List Entry
  -- how many tasks there are
  pub tasks : ℕ
  -- the fibers that are ready, the first to be lent in front
  pub ready : List F
  -- those that wait at a mailbox, of those that wait for the same the first that came in front
  pub parked : List (Waiter F)
  -- the task that is lent to each seat
  pub cells : List (Option ℕ)
  pub mails : BoxName → Mail
  pub stopped : Bool

-- ---- where the tasks are

abbrev pub lent_of : List (Option ℕ) → List Place
lent_of [] = []
lent_of (None ∷ cells) = lent_of cells
lent_of (Some t ∷ cells) = record { spot = Lent; task = t } ∷ lent_of cells

abbrev pub ready_of : {F : Type 0} → (F → ℕ) → List F → List Place
ready_of task [] = []
ready_of task (f ∷ fs) = record { spot = Ready; task = task f } ∷ ready_of task fs

abbrev pub parked_of : {F : Type 0} → (F → ℕ) → List (Waiter F) → List Place
parked_of task [] = []
parked_of task (w ∷ ws) = record { spot = Parked w.waits; task = task w.fiber } ∷ parked_of task ws

abbrev pub places_of : {F : Type 0} → (F → ℕ) → List F → List (Option ℕ) → List (Waiter F) → List Place
places_of task ready cells parked = ready_of task ready ++ (lent_of cells ++ parked_of task parked)

abbrev pub alive_course : Option Course → Bool
alive_course None = false
alive_course (Some c) = not (has_ended c)

-- a task that has begun and hasn't ended
abbrev pub is_alive : Books → ℕ → Bool
is_alive books t = alive_course (slice_get books.courses t)

abbrev pub lone_stands : Setting → ℕ → Option Lone → Option Waits
lone_stands setting t None = None
lone_stands setting t (Some l) = stands_at setting t l

abbrev pub stands_in : Setting → List Lone → ℕ → Option Waits
stands_in setting lones t = lone_stands setting t (slice_get lones t)

-- nobody waits to put where there is no bound
abbrev pub may_wait : (BoxName → Post) → Waits → Bool
may_wait posts (wait.Take box) = true
may_wait posts (wait.Put box) = is_some (posts box).most

-- how many more messages it may hold
abbrev pub room_at : Option ℕ → ℕ → ℕ
room_at None n = 0
room_at (Some most) n = most - n

-- how many messages are to have a taker, and how many free places a putter
abbrev pub due : (BoxName → Post) → Waits → ℕ
due posts (wait.Take box) = length (posts box).queue
due posts (wait.Put box) = room_at (posts box).most (length (posts box).queue)

-- on a stopped board it isn't asked
abbrev pub due_in : Bool → (BoxName → Post) → Waits → ℕ
due_in stopped posts w = if stopped then 0 else due posts w

-- ---- what it stands for

abbrev pub HoldsQueue : Program → List (ℕ × Tree) → List (ℕ × List Token) → Type 0
HoldsQueue p [] [] = Unit {0}
HoldsQueue p [] (q ∷ qs) = ⊥
HoldsQueue p (m ∷ ms) [] = ⊥
HoldsQueue p (m ∷ ms) (q ∷ qs) = (m.0 ≡ q.0) × IsMessage p m.1 q.1 × HoldsQueue p ms qs

pub record HoldsPost (p : Program) (mail : Mail) (post : Post) : Type 0 where
  pub most : mail.most ≡ post.most
  pub puts : mail.puts ≡ post.puts
  pub queue : HoldsQueue p mail.queue post.queue

-- its course is its task's part of the journal
pub record IsOwn {F : Type 0} (task : F → ℕ) (course : F → Course) (holds : Setting → F → Lone → Type 0) (setting : Setting) (courses : List Course) (f : F) : Type 0 where
  pub stands : StandsFor task course holds setting f
  pub own : slice_get courses (task f) ≡ Some (course f)

pub record BoardStands {F : Type 0} (task : F → ℕ) (course : F → Course) (holds : Setting → F → Lone → Type 0) (setting : Setting) (b : Board F) : Type 0 where
  -- the journal leads to a state of the moved machine
  pub state : Moving
  pub replay : MovedReplay setting b.journal state
  pub tasks : b.tasks ≡ length state.books.courses
  -- the mailboxes hold its queues, counts and bounds, with allowed messages
  pub mails : (box : BoxName) → HoldsPost setting.program (b.mails box) (state.books.mailboxes box)
  -- Which tasks are in a place: each that hasn't ended is in exactly one. On a stopped board some may be in none.
  pub there : ℕ → Bool
  pub alive : (t : ℕ) → there t ≡ true → is_alive state.books t ≡ true
  pub found : b.stopped ≡ false → (t : ℕ) → is_alive state.books t ≡ true → there t ≡ true
  pub stood : Stood there (stands_in setting state.lones) (may_wait state.books.mailboxes) (due_in b.stopped state.books.mailboxes) (places_of task b.ready b.cells b.parked)
  -- each fiber that is ready or parked stands for its task's part of the journal
  pub ready : AllByRecursion (IsOwn task course holds setting state.books.courses) b.ready
  pub parked : AllByRecursion (λ (w : Waiter F). IsOwn task course holds setting state.books.courses w.fiber) b.parked

-- ---- what the calls do

-- the journal, the mailboxes and the count of tasks are as before
pub record SameRun {F : Type 0} (b b' : Board F) : Type 0 where
  pub journal : b'.journal ≡ b.journal
  pub tasks : b'.tasks ≡ b.tasks
  pub mails : SameMails b.mails b'.mails

-- the fibers and the cells are as before
pub record SameSpots {F : Type 0} (b b' : Board F) : Type 0 where
  pub ready : b'.ready ≡ b.ready
  pub parked : b'.parked ≡ b.parked
  pub cells : b'.cells ≡ b.cells
  pub stopped : b'.stopped ≡ b.stopped

abbrev pub NotedAs : {F : Type 0} → Board F → Board F → ℕ → Act → Type 0
NotedAs b b' t act = b'.journal ≡ b.journal ++ record { task = t; act = act } ∷ []

-- the first that is ready is lent to the seat
pub record Lends {F : Type 0} (task : F → ℕ) (b : Board F) (seat : ℕ) (b' : Board F) (f : F) : Type 0 where
  pub run : SameRun b b'
  pub ready : b.ready ≡ f ∷ b'.ready
  pub parked : b'.parked ≡ b.parked
  pub cells : b'.cells ≡ slice_set b.cells seat (Some (task f))
  pub stopped : b'.stopped ≡ b.stopped

pub record GivesBack {F : Type 0} (b : Board F) (seat : ℕ) (b' : Board F) (f : F) : Type 0 where
  pub run : SameRun b b'
  pub ready : b'.ready ≡ b.ready ++ f ∷ []
  pub parked : b'.parked ≡ b.parked
  pub cells : b'.cells ≡ slice_set b.cells seat None
  pub stopped : b'.stopped ≡ b.stopped

pub record Parks {F : Type 0} (b : Board F) (seat : ℕ) (b' : Board F) (f : F) (waits : Waits) : Type 0 where
  pub run : SameRun b b'
  pub ready : b'.ready ≡ b.ready
  pub parked : StandsBehind (record { waits = waits; fiber = f }) b.parked b'.parked
  pub cells : b'.cells ≡ slice_set b.cells seat None
  pub stopped : b'.stopped ≡ b.stopped

pub record Stops {F : Type 0} (b : Board F) (seat : ℕ) (b' : Board F) : Type 0 where
  pub run : SameRun b b'
  pub ready : b'.ready ≡ b.ready
  pub parked : b'.parked ≡ b.parked
  pub cells : b'.cells ≡ slice_set b.cells seat None
  pub stopped : b'.stopped ≡ true

-- A put: the message goes to the end of the queue with the count as its number, and the first that waits there to take
-- is ready, at the back.
pub record PutsMessage {F : Type 0} (b : Board F) (t : ℕ) (b' : Board F) (box : BoxName) (tree : Tree) (shape : List Token) : Type 0 where
  pub journal : NotedAs b b' t (Put box (b.mails box).puts shape)
  pub tasks : b'.tasks ≡ b.tasks
  pub mails : SameMails (with_mailbox b.mails box (with_message (b.mails box) tree)) b'.mails
  pub ready : b'.ready ≡ ready_after b.ready (woken (wait.Take box) b.parked)
  pub parked : b'.parked ≡ parked_after b.parked (woken (wait.Take box) b.parked)
  pub cells : b'.cells ≡ b.cells
  pub stopped : b'.stopped ≡ b.stopped

-- A take: the first message leaves the queue, and the first that waits there to put is ready, at the back.
pub record TakesMessage {F : Type 0} (b : Board F) (t : ℕ) (b' : Board F) (box : BoxName) (n : ℕ) (tree : Tree) (rest : List (ℕ × Tree)) : Type 0 where
  pub journal : NotedAs b b' t (Take box n)
  pub tasks : b'.tasks ≡ b.tasks
  pub queue : (b.mails box).queue ≡ (n, tree) ∷ rest
  pub mails : SameMails (with_mailbox b.mails box (with_queue (b.mails box) rest)) b'.mails
  pub ready : b'.ready ≡ ready_after b.ready (woken (wait.Put box) b.parked)
  pub parked : b'.parked ≡ parked_after b.parked (woken (wait.Put box) b.parked)
  pub cells : b'.cells ≡ b.cells
  pub stopped : b'.stopped ≡ b.stopped

-- a mailbox gets a bound
pub record BoundsMailbox {F : Type 0} (b : Board F) (t : ℕ) (b' : Board F) (box : BoxName) (most : ℕ) : Type 0 where
  pub journal : NotedAs b b' t (Bound box most)
  pub tasks : b'.tasks ≡ b.tasks
  pub mails : SameMails (with_mailbox b.mails box (bounded (b.mails box) most)) b'.mails
  pub spots : SameSpots b b'

-- an act that changes the journal alone: a print, or the probe of an empty mailbox
pub record Notes {F : Type 0} (b : Board F) (t : ℕ) (b' : Board F) (act : Act) : Type 0 where
  pub journal : NotedAs b b' t act
  pub tasks : b'.tasks ≡ b.tasks
  pub mails : SameMails b.mails b'.mails
  pub spots : SameSpots b b'

-- a start: the new fiber is ready, at the back
pub record StartsTask {F : Type 0} (b : Board F) (t : ℕ) (b' : Board F) (f : F) (shape : List Token) : Type 0 where
  pub journal : NotedAs b b' t (Start b.tasks shape)
  pub tasks : b'.tasks ≡ b.tasks + 1
  pub mails : SameMails b.mails b'.mails
  pub ready : b'.ready ≡ b.ready ++ f ∷ []
  pub parked : b'.parked ≡ b.parked
  pub cells : b'.cells ≡ b.cells
  pub stopped : b'.stopped ≡ b.stopped

-- an end: the cell is emptied
pub record EndsTask {F : Type 0} (b : Board F) (seat t : ℕ) (b' : Board F) (why : EndCause) : Type 0 where
  pub journal : NotedAs b b' t (End why)
  pub tasks : b'.tasks ≡ b.tasks
  pub mails : SameMails b.mails b'.mails
  pub ready : b'.ready ≡ b.ready
  pub parked : b'.parked ≡ b.parked
  pub cells : b'.cells ≡ slice_set b.cells seat None
  pub stopped : b'.stopped ≡ b.stopped

-- ---- the close

abbrev pub box_of : Waits → BoxName
box_of (wait.Take box) = box
box_of (wait.Put box) = box

-- the mailbox at which a task is parked
abbrev pub parked_box : {F : Type 0} → (F → ℕ) → List (Waiter F) → ℕ → Option BoxName
parked_box task [] t = None
parked_box task (w ∷ ws) t = if task w.fiber == t then Some (box_of w.waits) else parked_box task ws t

-- the mailboxes at which so many tasks are parked, by their numbers
pub record AreBoxes {F : Type 0} (task : F → ℕ) (parked : List (Waiter F)) (tasks : ℕ) (boxes : List (Option BoxName)) : Type 0 where
  pub each : length boxes ≡ tasks
  pub at : (t : ℕ) → t < tasks → slice_index_or boxes t None ≡ parked_box task parked t

-- a `waits` entry for each of so many tasks from t on that is parked, by increasing number
abbrev pub closing : {F : Type 0} → (F → ℕ) → List (Waiter F) → ℕ → ℕ → List Entry
closing task parked t zero = []
closing task parked t (suc n) = wait_entry t (parked_box task parked t) ++ closing task parked (suc t) n

-- ---- at a seat

abbrev pub cell_at : {F : Type 0} → Board F → ℕ → Option ℕ
cell_at b seat = elim (slice_get b.cells seat) [ None ↦ None | Some cell ↦ cell ]

-- the task that is lent to the seat
abbrev pub IsLent : {F : Type 0} → Board F → ℕ → ℕ → Type 0
IsLent b seat t = slice_get b.cells seat ≡ Some (Some t)

-- no fiber is ready and none is lent
abbrev pub IsQuiet : {F : Type 0} → Board F → Type 0
IsQuiet b = (b.ready ≡ []) × (lent_of b.cells ≡ [])
