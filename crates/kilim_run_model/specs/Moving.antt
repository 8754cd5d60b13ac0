-- The machine whose messages are moved: a journal gives mailboxes with shapes and a course for each task, and each
-- course is that of a thread on a heap of its own.
use Rattle.std.specs.Prelude.{◌≡◌, ℕ, suc, Bool, true, false, ◌&&◌, ◌||◌, not, ◌==◌, nat_lt, if◌then◌else◌, List, [], ◌∷◌, ◌++◌, Option, Some, None, is_some, length, slice_get, slice_set}
use Rattle.kilim_run_state.specs.declared.cause.EndCause.{EndCause}
use Rattle.kilim_run_state.specs.declared.cause.EndCause.TheVariants as cause
use Rattle.kilim_program.specs.declared.names.BoxName.{BoxName}
use Rattle.kilim_run_state.specs.declared.value.Token.{Token}
use Rattle.kilim_run_journal.specs.declared.entry.Act.{Act}
use Rattle.kilim_run_journal.specs.declared.entry.Act.TheVariants.{Put, Take, Empty, Start, Print, End, Wait, Bound}
use Rattle.kilim_run_journal.specs.declared.entry.Entry.{Entry}
use Rattle.kilim_program.specs.Names.{◌>>=◌}
use Rattle.kilim_run_model.specs.State.{Setting, Mailbox, empty_mailbox, with_message, with_queue, bounded, is_full, with_mailbox}
use Rattle.kilim_run_model.specs.Lone.{Lone, Puts}
use Rattle.kilim_run_model.specs.Turn.{task_limit}
use Rattle.kilim_run_model.specs.Runs.{where_empty, wait_entry, where_full}
use Rattle.kilim_run_model.specs.Course.{Deed, Course, plain, IsLone, has_ended, next_action, stands_at}
use Rattle.kilim_run_model.specs.declared.deed.Beginning.TheVariants.{Boot, Begun}
use Rattle.kilim_run_model.specs.declared.waits.Waits.{Waits}
use Rattle.kilim_run_model.specs.declared.waits.Waits.TheVariants as wait

-- what a journal says alone: a course for each task, by its number, and the mailboxes
pub record Books : Type 0 where
  pub courses : List Course
  pub mailboxes : BoxName → Mailbox (List Token)

abbrev pub first_books : Books
first_books = record { courses = record { beginning = Boot; deeds = [] } ∷ []; mailboxes = λ box. empty_mailbox }

abbrev pub further : Course → Deed → Course
further c d = record { beginning = c.beginning; deeds = c.deeds ++ d ∷ [] }

-- the task's course goes on by this deed
abbrev pub with_deed : List Course → ℕ → Course → Deed → List Course
with_deed courses t c d = slice_set courses t (further c d)

-- A put has the count as its number; what is taken is the queue's first; an empty one is empty; a start has the
-- next number, below 10,000; an end for want of tasks needs 10,000.
abbrev pub books_put : Books → ℕ → Course → BoxName → ℕ → List Token → Option Books
books_put b t c box n shape =
    if n == (b.mailboxes box).puts && not (is_full (b.mailboxes box)) then
    Some (record { courses = with_deed b.courses t c (plain (Put box n shape)); mailboxes = with_mailbox b.mailboxes box (with_message (b.mailboxes box) shape) })
    else None

abbrev pub books_taken : Books → ℕ → Course → BoxName → ℕ → List (ℕ × List Token) → Option Books
books_taken b t c box n [] = None
books_taken b t c box n (first ∷ rest) =
    if first.0 == n then
    Some (record { courses = with_deed b.courses t c (record { act = Take box n; taken = first.1 }); mailboxes = with_mailbox b.mailboxes box (with_queue (b.mailboxes box) rest) })
    else None

abbrev pub books_empty : Books → ℕ → Course → BoxName → List (ℕ × List Token) → Option Books
books_empty b t c box [] = Some (record b { courses = with_deed b.courses t c (plain (Empty box)) })
books_empty b t c box (first ∷ rest) = None

abbrev pub is_tasks : EndCause → Bool
is_tasks cause.Tasks = true
is_tasks why = false

-- an end that others decide: for want of tasks, or at a full mailbox
abbrev pub is_others : EndCause → Bool
is_others cause.Tasks = true
is_others cause.Full = true
is_others why = false

abbrev pub books_by : Books → ℕ → Course → Act → Option Books
books_by b t c (Put box n shape) = books_put b t c box n shape
books_by b t c (Take box n) = books_taken b t c box n (b.mailboxes box).queue
books_by b t c (Empty box) = books_empty b t c box (b.mailboxes box).queue
books_by b t c (Start n shape) =
    if n == length b.courses && nat_lt n task_limit then
    Some (record b { courses = with_deed b.courses t c (plain (Start n shape)) ++ record { beginning = Begun shape; deeds = [] } ∷ [] })
    else None
books_by b t c (Print shape) = Some (record b { courses = with_deed b.courses t c (plain (Print shape)) })
books_by b t c (End why) =
    if is_tasks why && not (length b.courses == task_limit) then None
    else Some (record b { courses = with_deed b.courses t c (plain (End why)) })
books_by b t c (Wait box) = None
books_by b t c (Bound box n) = Some (record { courses = with_deed b.courses t c (plain (Bound box n)); mailboxes = with_mailbox b.mailboxes box (bounded (b.mailboxes box) n) })

abbrev pub books_after : Books → Entry → Option Books
books_after b e = slice_get b.courses e.task >>= λ (c : Course). books_by b e.task c e.act

abbrev pub books_from : Books → List Entry → Option Books
books_from b [] = Some b
books_from b (e ∷ es) = books_after b e >>= λ (mid : Books). books_from mid es

-- the books and the threads: a state of the moved machine
pub record Moving : Type 0 where
  pub books : Books
  pub lones : List Lone

-- Where an entry tells that a put ended its task, the mailbox of that put is full by then. The entry itself names no mailbox.
abbrev pub FullHere : Setting → Books → Entry → Type 0
FullHere setting b e =
    e.act ≡ End cause.Full → (c : Course) → slice_get b.courses e.task ≡ Some c → (l : Lone) → IsLone setting e.task c l → (box : BoxName) (root : ℕ) (shape : List Token) (after : Lone) → next_action setting e.task l ≡ Puts box root shape after → is_full (b.mailboxes box) ≡ true

-- so does each entry of a journal, from these books on
abbrev pub FullSaid : Setting → Books → List Entry → Type 0
FullSaid setting b [] = Unit {0}
FullSaid setting b (e ∷ es) = FullHere setting b e × ((mid : Books) → books_after b e ≡ Some mid → FullSaid setting mid es)

pub record MovedReplay (setting : Setting) (journal : List Entry) (s : Moving) : Type 0 where
  pub books : books_from first_books journal ≡ Some s.books
  -- an end for a full mailbox comes at one
  pub full : FullSaid setting first_books journal
  -- the thread of each course, by their number
  pub each : length s.lones ≡ length s.books.courses
  pub lones : (t : ℕ) (c : Course) (l : Lone) → slice_get s.books.courses t ≡ Some c → slice_get s.lones t ≡ Some l → IsLone setting t c l

-- ---- at rest

abbrev pub if_waits : Books → Option Waits → Option BoxName
if_waits b None = None
if_waits b (Some (wait.Take box)) = where_empty (b.mailboxes box).queue box
if_waits b (Some (wait.Put box)) = where_full (b.mailboxes box) box

-- the mailbox at which the thread waits
abbrev pub waits_at : Setting → Books → ℕ → Lone → Option BoxName
waits_at setting b t l = if_waits b (stands_at setting t l)

abbrev pub all_at_rest : Setting → Books → ℕ → List Course → List Lone → Bool
all_at_rest setting b t (c ∷ cs) (l ∷ ls) = (has_ended c || is_some (waits_at setting b t l)) && all_at_rest setting b (suc t) cs ls
all_at_rest setting b t cs ls = true

-- an entry for each task that hasn't ended and waits, by increasing number
abbrev pub waits_from : Setting → Books → ℕ → List Course → List Lone → List Entry
waits_from setting b t (c ∷ cs) (l ∷ ls) = wait_entry t (if has_ended c then None else waits_at setting b t l) ++ waits_from setting b (suc t) cs ls
waits_from setting b t cs ls = []

pub record MovedAtRest (setting : Setting) (s : Moving) (waits : List Entry) : Type 0 where
  pub rest : all_at_rest setting s.books 0 s.books.courses s.lones ≡ true
  pub waiting : waits ≡ waits_from setting s.books 0 s.books.courses s.lones
