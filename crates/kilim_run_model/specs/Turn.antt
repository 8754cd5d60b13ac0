-- One thread of the shared machine moves once: what it does next, with what the others decide.
use Rattle.std.specs.Prelude.{ℕ, ◌==◌, nat_lt, if◌then◌else◌, List, [], ◌∷◌, ◌++◌, Option, Some, None, length, slice_get, slice_set}
use Rattle.kilim_run_state.specs.declared.cause.EndCause.TheVariants as cause
use Rattle.kilim_program.specs.declared.names.BoxName.{BoxName}
use Rattle.kilim_run_state.specs.declared.value.Token.{Token}
use Rattle.kilim_program.specs.declared.value.Value.TheVariants.{Null, Ref}
use Rattle.kilim_run_journal.specs.declared.entry.Act.{Act}
use Rattle.kilim_run_journal.specs.declared.entry.Act.TheVariants.{Bound, Put, Take, Empty, Start, Print, End}
use Rattle.kilim_run_state.specs.Machine.{Activation}
use Rattle.kilim_run_model.specs.State.{Setting, Thread, Alive, State, with_message, with_queue, with_mailbox, bounded, is_full, execute_frames, noted}
use Rattle.kilim_run_model.specs.Lone.{Lone, Next, Goes, Puts, PutWaits, Bounds, Gets, Probes, Starts, Prints, Ends, Stands, pushed, ended, next_move}

-- the most tasks
abbrev pub task_limit : ℕ
task_limit = 10000

-- What a move did: the state after it but for the journal, and the action that it was, if it was one. The
-- journal gets an entry for each action, and nothing else.
pub record Moved : Type 0 where
  pub state : State
  pub act : Option Act

abbrev pub quiet : State → Moved
quiet s = record { state = s; act = None }

abbrev pub acted : State → Act → Moved
acted s act = record { state = s; act = Some act }

-- ---- a thread with the one heap

-- only task 0 keeps an object
abbrev pub kept_by : State → ℕ → Option ℕ
kept_by s t = if t == 0 then s.kept else None

abbrev pub lone_of : State → ℕ → Thread → Lone
lone_of s t thread = record { heap = s.heap; next = s.next; thread = thread; kept = kept_by s t }

-- the state in which that thread, and the one heap, stand so
abbrev pub with_lone : State → ℕ → Lone → State
with_lone s t l = record s { heap = l.heap; next = l.next; threads = slice_set s.threads t l.thread; kept = if t == 0 then l.kept else s.kept }

-- ---- what it does next

-- a put: the object's name goes to the end of the queue
abbrev pub puts : State → BoxName → ℕ → List Token → Moved
puts s box root shape = acted (record s { mailboxes = with_mailbox s.mailboxes box (with_message (s.mailboxes box) root) }) (Put box (s.mailboxes box).puts shape)

-- a take: the first name leaves the queue
abbrev pub takes : State → ℕ → BoxName → Lone → ℕ × ℕ → List (ℕ × ℕ) → Moved
takes s t box after first rest =
    acted (record (with_lone s t (pushed (Ref first.1) after)) { mailboxes = with_mailbox s.mailboxes box (with_queue (s.mailboxes box) rest) }) (Take box first.0)

-- a thread at `get` on an empty mailbox doesn't move
abbrev pub gets : State → ℕ → BoxName → Lone → List (ℕ × ℕ) → Moved
gets s t box after [] = quiet s
gets s t box after (first ∷ rest) = takes s t box after first rest

abbrev pub probes : State → ℕ → BoxName → Lone → List (ℕ × ℕ) → Moved
probes s t box after [] = acted (with_lone s t (pushed Null after)) (Empty box)
probes s t box after (first ∷ rest) = takes s t box after first rest

-- A start: a new thread at the beginning of `execute`. Too large a tree counts before too many tasks.
abbrev pub starts_with : State → List Token → State → Option (List Activation) → Moved
starts_with s shape after None = quiet s
starts_with s shape after (Some frames) = acted (record after { threads = after.threads ++ Alive frames 0 0 ∷ [] }) (Start (length s.threads) shape)

abbrev pub starts : Setting → State → ℕ → ℕ → List Token → Lone → Moved
starts setting s t root shape after =
    if nat_lt (length s.threads) task_limit then starts_with s shape (with_lone s t after) (execute_frames setting.program after.heap root)
    else acted (with_lone s t (ended after cause.Tasks)) (End cause.Tasks)

abbrev pub moved_by : Setting → State → ℕ → Next → Moved
moved_by setting s t (Goes after) = quiet (with_lone s t after)
moved_by setting s t (Puts box root shape after) = if is_full (s.mailboxes box) then acted (with_lone s t (ended after cause.Full)) (End cause.Full) else puts (with_lone s t after) box root shape
moved_by setting s t (PutWaits box root shape after) = if is_full (s.mailboxes box) then quiet s else puts (with_lone s t after) box root shape
moved_by setting s t (Bounds box most after) = acted (record (with_lone s t after) { mailboxes = with_mailbox s.mailboxes box (bounded (s.mailboxes box) most) }) (Bound box most)
moved_by setting s t (Gets box after) = gets s t box after (s.mailboxes box).queue
moved_by setting s t (Probes box after) = probes s t box after (s.mailboxes box).queue
moved_by setting s t (Starts root shape after) = starts setting s t root shape after
moved_by setting s t (Prints token after) = acted (with_lone s t after) (Print (token ∷ []))
moved_by setting s t (Ends cause after) = acted (with_lone s t after) (End cause)
moved_by setting s t Stands = quiet s

-- an absent thread doesn't move
abbrev pub thread_moved : Setting → State → ℕ → Option Thread → Moved
thread_moved setting s t None = quiet s
thread_moved setting s t (Some thread) = moved_by setting s t (next_move setting t (lone_of s t thread))

unfoldable pub moved : Setting → State → ℕ → Moved
moved setting s t = thread_moved setting s t (slice_get s.threads t)

-- the state after the move, with its action noted
abbrev pub with_entry : State → ℕ → Option Act → State
with_entry s t None = s
with_entry s t (Some act) = noted s t act

unfoldable pub turn : Setting → State → ℕ → State
turn setting s t = with_entry (moved setting s t).state t (moved setting s t).act
