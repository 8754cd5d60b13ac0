-- The board of the program as contracts see it.
use Rattle.std.specs.Prelude.{◌≡◌, ◌≢◌, ℕ, ◌+◌, ◌≤◌, ◌<◌, Bool, true, false, List, [], ◌∷◌, Option, Some, None, length, slice_get, ◌++◌, replicate}
use Rattle.std.specs.Vec.{vec_capacity}
use Rattle.std.specs.VecDeque.{deque_capacity}
use Rattle.kilim_program.specs.declared.names.BoxName.{BoxName}
use Rattle.kilim_run_model.specs.State.{is_full}
use Rattle.kilim_run_model.specs.declared.waits.Waits.{Waits}
use Rattle.kilim_run_board.specs.declared.board.Board as kept
use Rattle.kilim_run_board.specs.declared.board.Lent.{Lent}
use Rattle.kilim_run_board.specs.declared.board.Lent.TheVariants as lent
use Rattle.kilim_run_board.specs.declared.board.Acted.{Acted}
use Rattle.kilim_run_board.specs.declared.board.Acted.TheVariants as acted
use Rattle.kilim_run_state.specs.declared.cause.EndCause.TheVariants as cause
use Rattle.kilim_run_journal.specs.declared.entry.Act.TheVariants as act
use Rattle.kilim_run_model.specs.State.{Setting}
use Rattle.kilim_run_model.specs.Turn.{task_limit}
use Rattle.kilim_run_journal.specs.declared.entry.Entry.{Entry}
use Rattle.kilim_run_board.specs.fibers.Fibers.{StandsAt, StandsFor}
use Rattle.kilim_run_board.specs.fibers.Fibers.{NewCourse, Fits, course_after}
use Rattle.kilim_run_board.specs.declared.fibers.Wants.{Wants}
use Rattle.kilim_run_board.specs.declared.fibers.Wants.TheVariants as wants
use Rattle.kilim_run_board.specs.declared.fibers.Answer.TheVariants as answer
use Rattle.kilim_run_board.specs.waiting.Mailboxes.{Tree, mail_of, has_to_wait, HasRoom}
use Rattle.kilim_run_board.specs.Board.{Board, lent_of, Lends, GivesBack, Parks, SameRun, SameSpots, PutsMessage, TakesMessage, BoundsMailbox, Notes, StartsTask, EndsTask}
use Rattle.kilim_run_board.specs.NewBounds.{BoundsAreNew}
use Rattle.kilim_run_model.specs.Lone.{Lone}
use Rattle.kilim_run_model.specs.Course.{Course}
use Rattle.kilim_run_model.specs.declared.deed.Deed.{Deed}
use Rattle.kilim_run_model.specs.Moving.{Books, books_from, first_books, Moving, MovedReplay, MovedAtRest}
use Rattle.kilim_run_board.specs.fibers.Wishes.{IsMessage, Wish, ToPut, ToPutWait, ToBound, ToTake, ToProbe, ToStart, ToPrint, ToEnd, Wishes}
use Rattle.kilim_run_model.specs.declared.deed.Beginning.TheVariants.{Begun}

abbrev pub seen : {F : Type 0} → kept.Board F → Board F
seen b = record { journal = b.journal.items; tasks = b.tasks; ready = b.ready.items; parked = b.parked.items; cells = b.cells.items; mails = mail_of b.mailboxes; stopped = b.stopped }

-- there is room for each fiber among the ready and the parked ones, and puts are counted in the journal
pub record IsRoomy {F : Type 0} (b : kept.Board F) : Type 0 where
  pub fits : length b.ready.items + length b.parked.items + length (lent_of b.cells.items) ≤ b.tasks
  pub ready : b.tasks ≤ deque_capacity b.ready
  pub parked : b.tasks ≤ b.parked.room
  pub few : b.tasks ≤ 10000
  pub counted : (box : BoxName) → (mail_of b.mailboxes box).puts ≤ length b.journal.items

abbrev pub LendAnswers : {F : Type 0} → (F → ℕ) → Board F → ℕ → Board F → Lent F → Type 0
LendAnswers task b seat b' (lent.Fiber f) = (b.stopped ≡ false) × Lends task b seat b' f
LendAnswers task b seat b' lent.Idle = (b.stopped ≡ false) × (b' ≡ b) × (b.ready ≡ []) × (lent_of b.cells ≢ [])
LendAnswers task b seat b' lent.Quiet = (b.stopped ≡ false) × (b' ≡ b) × (b.ready ≡ []) × (lent_of b.cells ≡ [])
LendAnswers task b seat b' lent.Stopped = (b.stopped ≡ true) × (b' ≡ b)

-- ---- what the calls answer

-- all that contracts see is as before
pub record SameBoard {F : Type 0} (b b' : Board F) : Type 0 where
  pub run : SameRun b b'
  pub spots : SameSpots b b'

abbrev pub gives_at : {F : Type 0} → Bool → Board F → ℕ → Board F → F → Waits → Type 0
gives_at true b seat b' f waits = Parks b seat b' f waits
gives_at false b seat b' f waits = GivesBack b seat b' f

abbrev pub GiveAnswers : {F : Type 0} → Board F → ℕ → Board F → F → Option Waits → Type 0
GiveAnswers b seat b' f None = GivesBack b seat b' f
GiveAnswers b seat b' f (Some waits) = gives_at (has_to_wait b.mails waits) b seat b' f waits

-- the new fiber of a start has its task's number, and is else as it was
pub record IsNumbered {F : Type 0} (task : F → ℕ) (course : F → Course) (count : F → ℕ) (refused : F → Option Waits) (holds : Setting → F → Lone → Type 0) (f f' : F) (k : ℕ) : Type 0 where
  pub number : task f' ≡ k
  pub same : course f' ≡ course f
  pub counted : count f' ≡ count f
  pub refuses : refused f' ≡ refused f
  pub stands : (set : Setting) → StandsFor task course holds set f → StandsFor task course holds set f'

abbrev pub ActAnswers : {F : Type 0} → (F → F → ℕ → Type 0) → Board F → (seat t : ℕ) → Board F → Wants F → Acted → Type 0
ActAnswers numbered b seat t b' (wants.Put box tree shape) (acted.Answer (answer.Sent n)) = (n ≡ (b.mails box).puts) × (is_full (b.mails box) ≡ false) × PutsMessage b t b' box tree shape
ActAnswers numbered b seat t b' (wants.Put box tree shape) acted.OutOfRoom = (is_full (b.mails box) ≡ true) × EndsTask b seat t b' cause.Full
ActAnswers numbered b seat t b' (wants.PutWait box tree shape) (acted.Answer (answer.Sent n)) = (n ≡ (b.mails box).puts) × (is_full (b.mails box) ≡ false) × PutsMessage b t b' box tree shape
ActAnswers numbered b seat t b' (wants.PutWait box tree shape) (acted.Answer (answer.Full back same)) = (is_full (b.mails box) ≡ true) × (back ≡ tree) × (same ≡ shape) × SameBoard b b'
ActAnswers numbered b seat t b' (wants.Bound box most) (acted.Answer answer.Done) = BoundsMailbox b t b' box most
ActAnswers numbered b seat t b' (wants.Take box) (acted.Answer (answer.Message tree n)) = (rest : List (ℕ × Tree)) × TakesMessage b t b' box n tree rest
ActAnswers numbered b seat t b' (wants.Take box) (acted.Answer answer.Nothing) = ((b.mails box).queue ≡ []) × SameBoard b b'
ActAnswers numbered b seat t b' (wants.Probe box) (acted.Answer (answer.Message tree n)) = (rest : List (ℕ × Tree)) × TakesMessage b t b' box n tree rest
ActAnswers numbered b seat t b' (wants.Probe box) (acted.Answer answer.Nothing) = ((b.mails box).queue ≡ []) × Notes b t b' (act.Empty box)
ActAnswers {F} numbered b seat t b' (wants.Start f shape) (acted.Answer (answer.Started k)) = (f' : F) × numbered f f' k × (k ≡ b.tasks) × (b.tasks < task_limit) × StartsTask b t b' f' shape
ActAnswers numbered b seat t b' (wants.Start f shape) acted.OutOfTasks = (b.tasks ≡ task_limit) × EndsTask b seat t b' cause.Tasks
ActAnswers numbered b seat t b' (wants.Print shape) (acted.Answer answer.Done) = Notes b t b' (act.Print shape)
ActAnswers numbered b seat t b' (wants.End why) (acted.Answer answer.Done) = EndsTask b seat t b' why
ActAnswers numbered b seat t b' w a = ⊥

-- there is room for the act
abbrev pub RoomFor : {F : Type 0} → kept.Board F → Wants F → Type 0
RoomFor b (wants.Put box tree shape) = (length b.journal.items < vec_capacity b.journal) × HasRoom b.mailboxes box
RoomFor b (wants.PutWait box tree shape) = (length b.journal.items < vec_capacity b.journal) × HasRoom b.mailboxes box
RoomFor b (wants.Bound box most) = (length b.journal.items < vec_capacity b.journal) × HasRoom b.mailboxes box
RoomFor b (wants.Take box) = length b.journal.items < vec_capacity b.journal
RoomFor b (wants.Probe box) = length b.journal.items < vec_capacity b.journal
RoomFor b (wants.Start f shape) = (length b.journal.items < vec_capacity b.journal) × (b.tasks + 1 ≤ deque_capacity b.ready) × (b.tasks + 1 ≤ b.parked.room)
RoomFor b (wants.Print shape) = length b.journal.items < vec_capacity b.journal
RoomFor b (wants.Rest waits) = Unit {0}
RoomFor b (wants.End why) = length b.journal.items < vec_capacity b.journal

abbrev pub TakeAnswers : {F : Type 0} → Board F → ℕ → Board F → BoxName → Option (ℕ × Tree) → Type 0
TakeAnswers b t b' box (Some m) = (rest : List (ℕ × Tree)) × TakesMessage b t b' box m.0 m.1 rest
TakeAnswers b t b' box None = ((b.mails box).queue ≡ []) × SameBoard b b'

-- it is an act, and a start's fiber is newly begun
abbrev pub IsActable : {F : Type 0} → (F → Course) → (F → ℕ) → Wants F → Type 0
IsActable course count (wants.Start f shape) = (course f ≡ record { beginning = Begun shape; deeds = [] }) × (count f ≡ 0)
IsActable course count (wants.Rest waits) = ⊥
IsActable course count w = Unit {0}

-- what gets a bound has none and is new
pub record IsUnbounded {F : Type 0} (b : Board F) (box : BoxName) (most : ℕ) : Type 0 where
  pub some : 1 ≤ most
  pub none : (b.mails box).most ≡ None
  pub new : (b.mails box).puts ≡ 0

abbrev pub MayBound : {F : Type 0} → Board F → Wants F → Type 0
MayBound b (wants.Bound box most) = IsUnbounded b box most
MayBound b w = Unit {0}

-- ---- what keeps the board

-- the task's part of the journal
abbrev pub CourseAt : {F : Type 0} → Board F → ℕ → Course → Type 0
CourseAt b t c = (books : Books) × (books_from first_books b.journal ≡ Some books) × (slice_get books.courses t ≡ Some c)

-- what is wanted is the next action of the thread of that course
abbrev pub ActMeets : {F : Type 0} → (F → ℕ) → (F → Course) → (Setting → F → Lone → Type 0) → Setting → ℕ → Course → Wants F → Type 0
ActMeets task course holds set t c (wants.Put box tree shape) = Wishes set t c (ToPut box shape) × IsMessage set.program tree shape
ActMeets task course holds set t c (wants.PutWait box tree shape) = Wishes set t c (ToPutWait box shape) × IsMessage set.program tree shape
ActMeets task course holds set t c (wants.Bound box most) = Wishes set t c (ToBound box most) × BoundsAreNew set
ActMeets task course holds set t c (wants.Take box) = Wishes set t c (ToTake box)
ActMeets task course holds set t c (wants.Probe box) = Wishes set t c (ToProbe box)
ActMeets task course holds set t c (wants.Start f shape) = Wishes set t c (ToStart shape) × NewCourse course f shape × StandsFor task course holds set f
ActMeets task course holds set t c (wants.Print shape) = Wishes set t c (ToPrint shape)
ActMeets task course holds set t c (wants.Rest waits) = ⊥
ActMeets task course holds set t c (wants.End why) = Wishes set t c (ToEnd why)

abbrev pub wish_in : {F : Type 0} → Wants F → Option Wish
wish_in (wants.Put box tree shape) = Some (ToPut box shape)
wish_in (wants.PutWait box tree shape) = Some (ToPutWait box shape)
wish_in (wants.Bound box most) = Some (ToBound box most)
wish_in (wants.Take box) = Some (ToTake box)
wish_in (wants.Probe box) = Some (ToProbe box)
wish_in (wants.Start f shape) = Some (ToStart shape)
wish_in (wants.Print shape) = Some (ToPrint shape)
wish_in (wants.Rest waits) = None
wish_in (wants.End why) = Some (ToEnd why)

-- The answer fits what the fiber asks, and makes a deed that the task's part of the journal has now; or the task has ended.
abbrev pub IsAnswered : {F : Type 0} → Setting → Board F → ℕ → Course → Option Wish → Acted → Type 0
IsAnswered set b' t c (Some (ToEnd why)) (acted.Answer a) = Unit {0}
IsAnswered set b' t c (Some wish) (acted.Answer a) = (deed : Option Deed) × Fits set.program wish a deed × CourseAt b' t (course_after c deed)
IsAnswered set b' t c None (acted.Answer a) = ⊥
IsAnswered set b' t c wish acted.OutOfTasks = Unit {0}
IsAnswered set b' t c wish acted.OutOfRoom = Unit {0}

abbrev pub ProbeAnswers : {F : Type 0} → Board F → ℕ → Board F → BoxName → Acted → Type 0
ProbeAnswers b t b' box (acted.Answer (answer.Message tree n)) = (rest : List (ℕ × Tree)) × TakesMessage b t b' box n tree rest
ProbeAnswers b t b' box (acted.Answer answer.Nothing) = ((b.mails box).queue ≡ []) × Notes b t b' (act.Empty box)
ProbeAnswers b t b' box a = ⊥

-- what is lent stands for its task's part of the journal
abbrev pub LentStands : {F : Type 0} → (F → ℕ) → (F → Course) → (Setting → F → Lone → Type 0) → Setting → Board F → Lent F → Type 0
LentStands task course holds set b' (lent.Fiber f) = StandsFor task course holds set f × CourseAt b' (task f) (course f)
LentStands task course holds set b' l = Unit {0}

-- a fiber that is given back stands for its course, and where it waits its thread stands where it may have to wait for that
abbrev pub RestsAs : {F : Type 0} → (F → ℕ) → (F → Course) → (Setting → F → Lone → Type 0) → Setting → F → Option Waits → Type 0
RestsAs task course holds set f None = StandsFor task course holds set f
RestsAs task course holds set f (Some waits) = StandsAt task course holds set f waits

pub record IsNewBoard {F : Type 0} (b : Board F) (f : F) (seats : ℕ) : Type 0 where
  pub journal : b.journal ≡ []
  pub tasks : b.tasks ≡ 1
  pub ready : b.ready ≡ f ∷ []
  pub parked : b.parked ≡ []
  pub cells : b.cells ≡ replicate seats None
  pub mails : (box : BoxName) → b.mails box ≡ record { most = None; puts = 0; queue = [] }
  pub stopped : b.stopped ≡ false

-- The journal of a whole run of the moved machine: entries that lead to a state that is at rest, and the waits of that state.
pub record MovedWhole (set : Setting) (journal : List Entry) : Type 0 where
  pub entries : List Entry
  pub waits : List Entry
  pub parts : journal ≡ entries ++ waits
  pub state : Moving
  pub replay : MovedReplay set entries state
  pub at_rest : MovedAtRest set state waits
