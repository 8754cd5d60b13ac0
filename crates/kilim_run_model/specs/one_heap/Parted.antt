-- The machine whose threads have heaps of their own: it moves as the shared one does, but mailboxes hold shapes, and a tree
-- that is put, taken or started leaves one heap and comes into another.
use Rattle.std.specs.Prelude.{◌≡◌, ℕ, zero, suc, nat_lt, if◌then◌else◌, List, [], ◌∷◌, ◌++◌, Option, Some, None, length, slice_get, slice_set}
use Rattle.kilim_run_state.specs.declared.cause.EndCause.TheVariants as cause
use Rattle.kilim_program.specs.declared.names.BoxName.{BoxName}
use Rattle.kilim_run_state.specs.declared.value.Object.{Object}
use Rattle.kilim_run_state.specs.declared.value.Token.{Token}
use Rattle.kilim_program.specs.declared.value.Value.TheVariants.{Null}
use Rattle.kilim_run_journal.specs.declared.entry.Act.{Act}
use Rattle.kilim_run_journal.specs.declared.entry.Act.TheVariants.{Bound, Put, Take, Empty, Start, Print, End}
use Rattle.kilim_run_journal.specs.declared.entry.Entry.{Entry}
use Rattle.kilim_run_state.specs.Trees.{built, OfMessage}
use Rattle.kilim_run_model.specs.State.{Setting, Mailbox, empty_mailbox, with_message, with_queue, with_mailbox, bounded, is_full}
use Rattle.kilim_run_model.specs.Lone.{Lone, Next, Goes, Puts, PutWaits, Bounds, Gets, Probes, Starts, Prints, Ends, Stands, pushed, ended, next_move}
use Rattle.kilim_run_model.specs.Turn.{task_limit}
use Rattle.kilim_run_model.specs.Course.{received, tree_left, lone_begun}
use Rattle.kilim_run_model.specs.declared.deed.Beginning.TheVariants.{Boot, Begun}

pub record Parted : Type 0 where
  pub lones : List Lone
  -- the shapes that wait in them
  pub mailboxes : BoxName → Mailbox (List Token)
  pub journal : List Entry

abbrev pub alone : Option Lone → List Lone
alone None = []
alone (Some l) = l ∷ []

abbrev pub first_parted : Setting → Parted
first_parted set = record { lones = alone (lone_begun set Boot); mailboxes = λ box. empty_mailbox; journal = [] }

-- what a move did: the state after it but for the journal, and the action that it was, if it was one
pub record Parting : Type 0 where
  pub state : Parted
  pub act : Option Act

abbrev pub quiet : Parted → Parting
quiet m = record { state = m; act = None }

abbrev pub acted : Parted → Act → Parting
acted m act = record { state = m; act = Some act }

abbrev pub with_lone : Parted → ℕ → Lone → Parted
with_lone m t l = record m { lones = slice_set m.lones t l }

abbrev pub puts : Parted → BoxName → List Token → Parting
puts m box shape = acted (record m { mailboxes = with_mailbox m.mailboxes box (with_message (m.mailboxes box) shape) }) (Put box (m.mailboxes box).puts shape)

abbrev pub takes_built : Parted → ℕ → BoxName → ℕ → List (ℕ × List Token) → Lone → Option (List Object) → Parting
takes_built m t box number rest after None = quiet m
takes_built m t box number rest after (Some objects) =
    acted (record (with_lone m t (received after objects)) { mailboxes = with_mailbox m.mailboxes box (with_queue (m.mailboxes box) rest) }) (Take box number)

abbrev pub takes : Setting → Parted → ℕ → BoxName → Lone → ℕ × List Token → List (ℕ × List Token) → Parting
takes set m t box after first rest = takes_built m t box first.0 rest after (built set.program OfMessage after.next first.1)

abbrev pub gets : Setting → Parted → ℕ → BoxName → Lone → List (ℕ × List Token) → Parting
gets set m t box after [] = quiet m
gets set m t box after (first ∷ rest) = takes set m t box after first rest

abbrev pub probes : Setting → Parted → ℕ → BoxName → Lone → List (ℕ × List Token) → Parting
probes set m t box after [] = acted (with_lone m t (pushed Null after)) (Empty box)
probes set m t box after (first ∷ rest) = takes set m t box after first rest

abbrev pub starts_with : Parted → Parted → List Token → Option Lone → Parting
starts_with m after shape None = quiet m
starts_with m after shape (Some new) = acted (record after { lones = after.lones ++ new ∷ [] }) (Start (length m.lones) shape)

abbrev pub starts : Setting → Parted → ℕ → ℕ → List Token → Lone → Parting
starts set m t root shape after =
    if nat_lt (length m.lones) task_limit then starts_with m (with_lone m t (tree_left set.program root after)) shape (lone_begun set (Begun shape))
    else acted (with_lone m t (ended after cause.Tasks)) (End cause.Tasks)

abbrev pub by_next : Setting → Parted → ℕ → Next → Parting
by_next set m t (Goes after) = quiet (with_lone m t after)
by_next set m t (Puts box root shape after) = if is_full (m.mailboxes box) then acted (with_lone m t (ended after cause.Full)) (End cause.Full) else puts (with_lone m t (tree_left set.program root after)) box shape
by_next set m t (PutWaits box root shape after) = if is_full (m.mailboxes box) then quiet m else puts (with_lone m t (tree_left set.program root after)) box shape
by_next set m t (Bounds box most after) = acted (record (with_lone m t after) { mailboxes = with_mailbox m.mailboxes box (bounded (m.mailboxes box) most) }) (Bound box most)
by_next set m t (Gets box after) = gets set m t box after (m.mailboxes box).queue
by_next set m t (Probes box after) = probes set m t box after (m.mailboxes box).queue
by_next set m t (Starts root shape after) = starts set m t root shape after
by_next set m t (Prints token after) = acted (with_lone m t after) (Print (token ∷ []))
by_next set m t (Ends cause after) = acted (with_lone m t after) (End cause)
by_next set m t Stands = quiet m

abbrev pub lone_parts : Setting → Parted → ℕ → Option Lone → Parting
lone_parts set m t None = quiet m
lone_parts set m t (Some l) = by_next set m t (next_move set t l)

unfoldable pub parts : Setting → Parted → ℕ → Parting
parts set m t = lone_parts set m t (slice_get m.lones t)

-- ---- in the order of a journal

abbrev pub noted : Parted → ℕ → Act → Parted
noted m t act = record m { journal = m.journal ++ record { task = t; act = act } ∷ [] }

abbrev pub acted_or : Parted → ℕ → Option Act → Option (Act × Parted) → Option (Act × Parted)
acted_or m t None later = later
acted_or m t (Some act) later = Some (act, noted m t act)

unfoldable pub acted_within : Setting → ℕ → Parted → ℕ → Option (Act × Parted)
acted_within set zero m t = None
acted_within set (suc n) m t = acted_or (parts set m t).state t (parts set m t).act (acted_within set n (parts set m t).state t)

abbrev pub PartedReplays : Setting → Parted → List Entry → Parted → Type 0
PartedReplays set m [] last = m ≡ last
PartedReplays set m (e ∷ es) last = (n : ℕ) × (mid : Parted) × (acted_within set n m e.task ≡ Some (e.act, mid)) × PartedReplays set mid es last

-- ---- any order

abbrev pub with_entry : Parted → ℕ → Option Act → Parted
with_entry m t None = m
with_entry m t (Some act) = noted m t act

unfoldable pub turn : Setting → Parted → ℕ → Parted
turn set m t = with_entry (parts set m t).state t (parts set m t).act

abbrev pub played_from : Setting → Parted → List ℕ → Parted
played_from set m [] = m
played_from set m (t ∷ ts) = played_from set (turn set m t) ts
