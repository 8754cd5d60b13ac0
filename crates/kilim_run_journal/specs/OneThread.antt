-- A mailbox is one thread of messages: what a journal says of it is in the order of a queue.
use Rattle.std.specs.Prelude.{◌≡◌, ℕ, suc, ◌<◌, Bool, true, false, ◌&&◌, ◌==◌, List, [], ◌∷◌}
use Rattle.std.specs.List.{flat_map}
use Rattle.kilim_program.specs.declared.names.BoxName.{BoxName}
use Rattle.kilim_run_journal.specs.declared.entry.Act.{Act}
use Rattle.kilim_run_journal.specs.declared.entry.Act.TheVariants.{Put, Take, Empty}
use Rattle.kilim_run_journal.specs.declared.entry.Entry.{Entry}

-- what is said of one mailbox: a put and a take with the put's number, or that it was found empty
pub data Note : Type 0 where
  Puts : ℕ → Note
  Takes : ℕ → Note
  Empties : Note

-- Behind so many puts and takes: a put has the next number, from 0 without a gap. So has a take, and the put of its number stands before
-- it. It was empty only where there were as many takes as puts.
abbrev pub AreInOrder : ℕ → ℕ → List Note → Type 0
AreInOrder puts takes [] = Unit {0}
AreInOrder puts takes (Puts n ∷ notes) = (n ≡ puts) × AreInOrder (suc puts) takes notes
AreInOrder puts takes (Takes n ∷ notes) = (n ≡ takes) × (takes < puts) × AreInOrder puts (suc takes) notes
AreInOrder puts takes (Empties ∷ notes) = (takes ≡ puts) × AreInOrder puts takes notes

abbrev pub AreOneThread : List Note → Type 0
AreOneThread notes = AreInOrder 0 0 notes

abbrev pub is_box : BoxName → BoxName → Bool
is_box a b = a.task == b.task && a.number == b.number

abbrev pub note_if : Bool → Note → List Note
note_if true note = note ∷ []
note_if false note = []

-- what an act says of a mailbox
abbrev pub notes_of_act : BoxName → Act → List Note
notes_of_act box (Put other n shape) = note_if (is_box other box) (Puts n)
notes_of_act box (Take other n) = note_if (is_box other box) (Takes n)
notes_of_act box (Empty other) = note_if (is_box other box) Empties
notes_of_act box act = []

-- what a journal says of it, entry by entry
abbrev pub notes_of : BoxName → List Entry → List Note
notes_of box es = flat_map (λ (e : Entry). notes_of_act box e.act) es
