-- A mailbox that gets a bound is new.
use Rattle.std.specs.Prelude.{◌≡◌, ◌≤◌, ℕ, Bool, false, List, Some, slice_get}
use Rattle.std.specs.List.{AllByRecursion}
use Rattle.kilim_program.specs.declared.names.BoxName.{BoxName}
use Rattle.kilim_run_journal.specs.declared.entry.Act.{Act}
use Rattle.kilim_run_journal.specs.declared.entry.Act.TheVariants.{Put, Take, Empty, Bound}
use Rattle.kilim_run_journal.specs.declared.entry.Entry.{Entry}
use Rattle.kilim_run_model.specs.State.{Setting, same_box}
use Rattle.kilim_run_model.specs.Lone.{Lone, Bounds}
use Rattle.kilim_run_model.specs.Course.{Course, IsLone, next_action}
use Rattle.kilim_run_model.specs.Moving.{Moving, MovedReplay}

-- it is done at this mailbox
abbrev pub is_done_at : BoxName → Act → Bool
is_done_at box (Put other n shape) = same_box box other
is_done_at box (Take other n) = same_box box other
is_done_at box (Empty other) = same_box box other
is_done_at box (Bound other n) = same_box box other
is_done_at box act = false

-- nothing of the journal is
abbrev pub IsNowhere : BoxName → List Entry → Type 0
IsNowhere box es = AllByRecursion (λ (e : Entry). is_done_at box e.act ≡ false) es

-- Where a journal can be replayed, and what the thread of a task does next is to bound a mailbox: nothing of the journal was done at that
-- mailbox, and the bound is one or more.
abbrev pub BoundsAreNew : Setting → Type 0
BoundsAreNew set =
    (journal : List Entry) (s : Moving) → MovedReplay set journal s → (t : ℕ) (c : Course) (l : Lone) → slice_get s.books.courses t ≡ Some c → IsLone set t c l → (box : BoxName) (most : ℕ) (after : Lone) → next_action set t l ≡ Bounds box most after →
    IsNowhere box journal × (1 ≤ most)
