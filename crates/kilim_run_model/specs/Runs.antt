-- Runs: in any order, and in that of a journal; and which journals are those of whole runs.
use Rattle.std.specs.Prelude.{◌≡◌, ℕ, zero, suc, ◌+◌, Bool, true, ◌&&◌, if◌then◌else◌, List, [], ◌∷◌, ◌++◌, Option, Some, None, is_some}
use Rattle.kilim_program.specs.declared.names.BoxName.{BoxName}
use Rattle.kilim_run_journal.specs.declared.entry.Act.{Act}
use Rattle.kilim_run_journal.specs.declared.entry.Act.TheVariants.{Wait}
use Rattle.kilim_run_journal.specs.declared.entry.Entry.{Entry}
use Rattle.kilim_run_model.specs.State.{Setting, is_fit, Thread, Alive, Ended, Mailbox, is_full, State, first_state, noted}
use Rattle.kilim_run_model.specs.Lone.{next_move, get_at}
use Rattle.kilim_run_model.specs.declared.waits.Waits.{Waits}
use Rattle.kilim_run_model.specs.declared.waits.Waits.TheVariants as wait
use Rattle.kilim_run_model.specs.Turn.{lone_of, moved, turn}

-- ---- any order

-- the state after the threads of a list of numbers have moved, each once, in that order; any list is allowed
abbrev pub played_from : Setting → State → List ℕ → State
played_from setting s [] = s
played_from setting s (t ∷ ts) = played_from setting (turn setting s t) ts

abbrev pub played : Setting → List ℕ → State
played setting schedule = played_from setting (first_state setting) schedule

-- ---- up to a thread's next action

-- The thread moves until it has acted: its next action, and the state right after it, where that comes within so many
-- moves. Whatever is enough gives the same (the law `one_next_action`).
abbrev pub acted_or : State → ℕ → Option Act → Option (Act × State) → Option (Act × State)
acted_or s t None later = later
acted_or s t (Some act) later = Some (act, noted s t act)

unfoldable pub acted_within : Setting → ℕ → State → ℕ → Option (Act × State)
acted_within setting zero s t = None
acted_within setting (suc n) s t = acted_or (moved setting s t).state t (moved setting s t).act (acted_within setting n (moved setting s t).state t)

-- Two numbers of moves that are enough give one action and one state.
abbrev pub OneNextAction : Type 0
OneNextAction = (setting : Setting) (m n : ℕ) (s : State) (a b : Act × State) (t : ℕ) → acted_within setting m s t ≡ Some a → acted_within setting n s t ≡ Some b → a ≡ b

-- The thread makes at most so many moves, but not its next action.
abbrev pub unless_acted : State → Option Act → State → State
unless_acted s None later = later
unless_acted s (Some act) later = s

unfoldable pub before_action : Setting → ℕ → State → ℕ → State
before_action setting zero s t = s
before_action setting (suc n) s t = unless_acted s (moved setting s t).act (before_action setting n (moved setting s t).state t)

-- ---- in the order of a journal

-- For each entry in order, the entry's task moves until it makes its next action, which is that of the entry.
abbrev pub Replays : Setting → State → List Entry → State → Type 0
Replays setting s [] last = s ≡ last
Replays setting s (e ∷ es) last = (n : ℕ) × (mid : State) × (acted_within setting n s e.task ≡ Some (e.act, mid)) × Replays setting mid es last

-- No journal leads to two states, however many moves are granted on the way.
abbrev pub OneReplay : Type 0
OneReplay = (setting : Setting) (s : State) (es : List Entry) (a b : State) → Replays setting s es a → Replays setting s es b → a ≡ b

-- ---- at rest

-- each thread, by increasing number, has made so many of the moves that come before its next action
abbrev pub settled_from : Setting → ℕ → State → ℕ → List Thread → State
settled_from setting n s t [] = s
settled_from setting n s t (thread ∷ threads) = settled_from setting n (before_action setting n s t) (t + 1) threads

abbrev pub settled : Setting → ℕ → State → State
settled setting n s = settled_from setting n s 0 s.threads

abbrev pub where_empty : {A : Type 0} → List A → BoxName → Option BoxName
where_empty [] box = Some box
where_empty (first ∷ rest) box = None

abbrev pub where_full : {A : Type 0} → Mailbox A → BoxName → Option BoxName
where_full mailbox box = if is_full mailbox then Some box else None

abbrev pub if_waits : State → Option Waits → Option BoxName
if_waits s None = None
if_waits s (Some (wait.Take box)) = where_empty (s.mailboxes box).queue box
if_waits s (Some (wait.Put box)) = where_full (s.mailboxes box) box

-- The mailbox at which a thread waits: it is empty and the thread stands at its `get`, or it is full and the thread stands at a put that
-- waits; and instructions are left.
abbrev pub waits_at : Setting → State → ℕ → Thread → Option BoxName
waits_at setting s t thread = if_waits s (get_at (next_move setting t (lone_of s t thread)))

-- a thread has ended or waits
abbrev pub is_at_rest : Setting → State → ℕ → Thread → Bool
is_at_rest setting s t (Ended cause) = true
is_at_rest setting s t (Alive frames done boxes) = is_some (waits_at setting s t (Alive frames done boxes))

abbrev pub all_at_rest : Setting → State → ℕ → List Thread → Bool
all_at_rest setting s t [] = true
all_at_rest setting s t (thread ∷ threads) = is_at_rest setting s t thread && all_at_rest setting s (t + 1) threads

-- an entry for each thread that waits, by increasing number
abbrev pub wait_entry : ℕ → Option BoxName → List Entry
wait_entry t None = []
wait_entry t (Some box) = record { task = t; act = Wait box } ∷ []

abbrev pub waits_from : Setting → State → ℕ → List Thread → List Entry
waits_from setting s t [] = []
waits_from setting s t (thread ∷ threads) = wait_entry t (waits_at setting s t thread) ++ waits_from setting s (t + 1) threads

-- From this state each thread makes the moves that come before its next action, at most so many, and then all
-- have ended or wait, with these entries. (A thread that has ended or waits doesn't move: the law `rests_still`.)
pub record AtRest (setting : Setting) (s : State) (waits : List Entry) : Type 0 where
  pub moves : ℕ
  pub rest : all_at_rest setting (settled setting moves s) 0 (settled setting moves s).threads ≡ true
  pub waiting : waits ≡ waits_from setting (settled setting moves s) 0 (settled setting moves s).threads

-- The journal of a whole run: replayed, its entries lead to a state in which nothing is left to do, and then it
-- says who waits.
pub record Whole (setting : Setting) (journal : List Entry) : Type 0 where
  pub fit : is_fit setting ≡ true
  pub acts : List Entry
  pub waits : List Entry
  pub parts : journal ≡ acts ++ waits
  pub last : State
  pub replays : Replays setting (first_state setting) acts last
  pub at_rest : AtRest setting last waits
