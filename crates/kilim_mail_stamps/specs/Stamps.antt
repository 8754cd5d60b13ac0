-- Parts of a run: lists of entries with stamps. Each list was noted under a turn of its own, or by a worker alone.
--
-- A stamp is the reading of a logical clock (Lamport, Time, Clocks, and the Ordering of Events in a Distributed System, 1978): the clocks are those
-- of the tasks, of the mailboxes and of the register of starts, and an act sets the clocks of those that take part in it.
use Rattle.std.specs.Prelude.{◌≡◌, ℕ, suc, ◌<◌, Bool, true, false, ◌&&◌, ◌||◌, not, ◌==◌, nat_lt, if◌then◌else◌, List, [], ◌∷◌, ◌++◌, Option, Some, None, map, filter, slice_get}
use Rattle.kilim_run_state.specs.declared.cause.EndCause.{EndCause}
use Rattle.kilim_run_state.specs.declared.cause.EndCause.TheVariants as cause
use Rattle.kilim_program.specs.declared.names.BoxName.{BoxName}
use Rattle.kilim_run_state.specs.declared.value.Token.{Token}
use Rattle.kilim_run_journal.specs.declared.entry.Act.{Act}
use Rattle.kilim_run_journal.specs.declared.entry.Act.TheVariants.{Put, Take, Empty, Start, Print, End, Wait, Bound}
use Rattle.kilim_run_journal.specs.declared.entry.Entry.{Entry}
use Rattle.kilim_run_model.specs.State.{Setting, Mailbox, empty_mailbox, with_message, with_queue, bounded, is_full, same_box}
use Rattle.kilim_run_model.specs.Lone.{Lone, Puts}
use Rattle.kilim_run_model.specs.Turn.{task_limit}
use Rattle.kilim_run_model.specs.Course.{Course, plain, IsLone, next_action}
use Rattle.kilim_run_model.specs.declared.deed.Deed.{Deed}
use Rattle.kilim_run_model.specs.declared.deed.Beginning.{Beginning}
use Rattle.kilim_run_model.specs.declared.deed.Beginning.TheVariants.{Boot, Begun}
use Rattle.kilim_run_model.specs.Moving.{Moving, MovedReplay, further, is_tasks}
use Rattle.kilim_mail_stamps.specs.declared.stamped.Stamped.{Stamped}

-- ---- in the order of the stamps

-- the lesser stamp comes first, and at one stamp the lesser task number
abbrev pub is_before : Stamped → Stamped → Bool
is_before a b = nat_lt a.stamp b.stamp || (a.stamp == b.stamp && nat_lt a.entry.task b.entry.task)

abbrev pub among : Stamped → List Stamped → List Stamped
among x [] = x ∷ []
among x (y ∷ ys) = if is_before y x then y ∷ among x ys else x ∷ (y ∷ ys)

abbrev pub in_order : List Stamped → List Stamped
in_order [] = []
in_order (x ∷ xs) = among x (in_order xs)

abbrev pub joined : List (List Stamped) → List Stamped
joined [] = []
joined (xs ∷ parts) = xs ++ joined parts

-- all entries of the parts, in this order
abbrev pub entries_of : List (List Stamped) → List Stamped
entries_of parts = in_order (joined parts)

-- the journal has exactly the entries of the parts, ordered by stamp and then by task number
abbrev pub Merged : List Entry → List (List Stamped) → Type 0
Merged journal parts = journal ≡ map (λ (s : Stamped). s.entry) (entries_of parts)

-- ---- whose entries they are

abbrev pub is_of : ℕ → Stamped → Bool
is_of t s = s.entry.task == t

-- an end at a full mailbox
abbrev pub is_full_end : EndCause → Bool
is_full_end cause.Full = true
is_full_end why = false

-- the mailbox of an act, where the full one at which a put ended its task is told beside it
abbrev pub box_in : Option BoxName → Act → Option BoxName
box_in full (Put box n shape) = Some box
box_in full (Take box n) = Some box
box_in full (Empty box) = Some box
box_in full (Bound box n) = Some box
box_in full (End why) = if is_full_end why then full else None
box_in full act = None

abbrev pub is_that : BoxName → Option BoxName → Bool
is_that box None = false
is_that box (Some b) = same_box box b

abbrev pub is_on : BoxName → Stamped → Bool
is_on box s = is_that box (box_in s.full s.entry.act)

-- a start, or the end of a task that stands for one
abbrev pub is_starting : Act → Bool
is_starting (Start n shape) = true
is_starting (End why) = is_tasks why
is_starting act = false

abbrev pub is_registered : Stamped → Bool
is_registered s = is_starting s.entry.act

-- each has a greater stamp than the one before
abbrev pub Rises : List Stamped → Type 0
Rises [] = Unit {0}
Rises (x ∷ []) = Unit {0}
Rises (x ∷ y ∷ ys) = (x.stamp < y.stamp) × Rises (y ∷ ys)

-- ---- a mailbox, act by act

abbrev pub mail_put : Mailbox (List Token) → ℕ → List Token → Option (Mailbox (List Token))
mail_put m n shape = if n == m.puts && not (is_full m) then Some (with_message m shape) else None

abbrev pub mail_taken : Mailbox (List Token) → ℕ → List (ℕ × List Token) → Option (Mailbox (List Token))
mail_taken m n [] = None
mail_taken m n (first ∷ rest) = if first.0 == n then Some (with_queue m rest) else None

abbrev pub mail_empty : Mailbox (List Token) → List (ℕ × List Token) → Option (Mailbox (List Token))
mail_empty m [] = Some m
mail_empty m (first ∷ rest) = None

-- A put has the count as its number, and finds the mailbox not full; what is taken is the queue's first; an empty one is empty; the end of a
-- task at a full one finds it full.
abbrev pub mail_after : Mailbox (List Token) → Act → Option (Mailbox (List Token))
mail_after m (Put box n shape) = mail_put m n shape
mail_after m (Take box n) = mail_taken m n m.queue
mail_after m (Empty box) = mail_empty m m.queue
mail_after m (Bound box n) = Some (bounded m n)
mail_after m (End why) = if is_full m then Some m else None
mail_after m act = None

abbrev pub MailFrom : Mailbox (List Token) → List Stamped → Type 0
MailFrom m [] = Unit {0}
MailFrom m (s ∷ ss) = (next : Mailbox (List Token)) × (mail_after m s.entry.act ≡ Some next) × MailFrom next ss

-- ---- the register of starts, with so many tasks

abbrev pub Registers : ℕ → Act → (ℕ → Type 0) → Type 0
Registers n (Start t shape) rest = (t ≡ n) × (n < task_limit) × rest (suc n)
Registers n (End why) rest = (n ≡ task_limit) × rest n
Registers n act rest = ⊥

abbrev pub RegisterFrom : ℕ → List Stamped → Type 0
RegisterFrom n [] = Unit {0}
RegisterFrom n (s ∷ ss) = Registers n s.entry.act (λ n'. RegisterFrom n' ss)

-- ---- the tasks

-- what a task begins with, and the stamp of its start, if it was started
pub record Birth : Type 0 where
  pub stamp : Option ℕ
  pub beginning : Beginning

abbrev pub born_by : ℕ → Act → List Birth → List Birth
born_by stamp (Start n shape) later = record { stamp = Some stamp; beginning = Begun shape } ∷ later
born_by stamp act later = later

abbrev pub starts_in : List Stamped → List Birth
starts_in [] = []
starts_in (s ∷ ss) = born_by s.stamp s.entry.act (starts_in ss)

-- of all tasks, by their numbers
abbrev pub births_in : List Stamped → List Birth
births_in all = record { stamp = None; beginning = Boot } ∷ starts_in all

-- the shape that was put under a number
abbrev pub put_shape : BoxName → ℕ → Act → List Token → List Token
put_shape box n (Put b k shape) later = if same_box box b && n == k then shape else later
put_shape box n act later = later

abbrev pub shape_put : BoxName → ℕ → List Stamped → List Token
shape_put box n [] = []
shape_put box n (s ∷ ss) = put_shape box n s.entry.act (shape_put box n ss)

-- an act, with the shape that it took, among all entries
abbrev pub deed_in : List Stamped → Act → Deed
deed_in all (Take box n) = record { act = Take box n; taken = shape_put box n all }
deed_in all act = plain act

-- the deeds of a task in a list of entries
abbrev pub deeds_in : List Stamped → ℕ → List Stamped → List Deed
deeds_in all t ss = map (λ (s : Stamped). deed_in all s.entry.act) (filter (is_of t) ss)

abbrev pub course_in : List Stamped → ℕ → Birth → Course
course_in all t b = record { beginning = b.beginning; deeds = deeds_in all t all }

-- Where a put ends the task since its mailbox is full, this mailbox is the one told beside the act. (An end for any other cause tells nothing.)
abbrev pub Tells : Setting → ℕ → Course → Option BoxName → Act → Type 0
Tells set t c full act =
    act ≡ End cause.Full → (l : Lone) → IsLone set t c l → (box : BoxName) (root : ℕ) (shape : List Token) (after : Lone) → next_action set t l ≡ Puts box root shape after → full ≡ Some box

-- so does each entry of a task whose course was this
abbrev pub TellsAll : Setting → List Stamped → ℕ → Course → List Stamped → Type 0
TellsAll set all t c [] = Unit {0}
TellsAll set all t c (s ∷ ss) = Tells set t c s.full s.entry.act × TellsAll set all t (further c (deed_in all s.entry.act)) ss

-- the first entry has a greater stamp than the start
abbrev pub IsLater : Option ℕ → List Stamped → Type 0
IsLater (Some n) (s ∷ ss) = n < s.stamp
IsLater stamp ss = Unit {0}

-- ---- a run

-- All entries together are those of a run, in the order of their stamps.
pub record StampedRun (set : Setting) (parts : List (List Stamped)) : Type 0 where
  -- no two entries of one task, of one mailbox or of the register have the same stamp
  pub tasks_rise : (t : ℕ) → Rises (filter (is_of t) (entries_of parts))
  pub boxes_rise : (box : BoxName) → Rises (filter (is_on box) (entries_of parts))
  pub register_rises : Rises (filter is_registered (entries_of parts))
  -- each task that was started has entries that are the acts of its thread, with the shapes taken, and where a put ends it the full mailbox is told
  pub lones : (t : ℕ) (b : Birth) → slice_get (births_in (entries_of parts)) t ≡ Some b → (l : Lone) × IsLone set t (course_in (entries_of parts) t b) l
  pub told : (t : ℕ) (b : Birth) → slice_get (births_in (entries_of parts)) t ≡ Some b → TellsAll set (entries_of parts) t (record { beginning = b.beginning; deeds = [] }) (filter (is_of t) (entries_of parts))
  -- each mailbox's entries are a run of its count, queue and bound
  pub boxes : (box : BoxName) → MailFrom empty_mailbox (filter (is_on box) (entries_of parts))
  -- starts are numbered from 1, below 10,000; an end for want of tasks stands only where 10,000 tasks exist
  pub register : RegisterFrom 1 (filter is_registered (entries_of parts))
  -- a task that has an entry was started, but for task 0, and its first entry has a greater stamp than its start
  pub started : (t : ℕ) → slice_get (births_in (entries_of parts)) t ≡ None → filter (is_of t) (entries_of parts) ≡ []
  pub later : (t : ℕ) (b : Birth) → slice_get (births_in (entries_of parts)) t ≡ Some b → IsLater b.stamp (filter (is_of t) (entries_of parts))

-- Where parts are those of a stamped run, what they are merged to is a journal of the machine whose messages are moved.
abbrev pub MergedReplays : Type 0
MergedReplays = (set : Setting) (parts : List (List Stamped)) (journal : List Entry) → StampedRun set parts → Merged journal parts → (s : Moving) × MovedReplay set journal s
