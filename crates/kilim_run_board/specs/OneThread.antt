-- A mailbox is one thread of messages: what a journal says of it is in the order of a queue, of a bounded one where it has a bound.
use Rattle.std.specs.Prelude.{◌≡◌, ◌+◌, ◌<◌, ℕ, suc, Bool, true, false, ◌&&◌, ◌==◌, List, [], ◌∷◌, Option, Some, None}
use Rattle.std.specs.List.{flat_map}
use Rattle.kilim_program.specs.declared.names.BoxName.{BoxName}
use Rattle.kilim_run_journal.specs.declared.entry.Act.{Act}
use Rattle.kilim_run_journal.specs.declared.entry.Act.TheVariants.{Put, Take, Empty, Bound}
use Rattle.kilim_run_journal.specs.declared.entry.Entry.{Entry}

-- what is said of one mailbox: that it gets a bound, a put and a take with the put's number, or that it was found empty
pub data Note : Type 0 where
  Bounds : ℕ → Note
  Puts : ℕ → Note
  Takes : ℕ → Note
  Empties : Note

-- with a bound, fewer of so many puts are without their take than it says
abbrev pub HasPlace : Option ℕ → ℕ → ℕ → Type 0
HasPlace None puts takes = Unit {0}
HasPlace (Some most) puts takes = puts < most + takes

-- Behind so many puts and takes: a put has the next number, from 0 without a gap, and a place. So has a take its number, and the put of it
-- stands before it. It was empty only where there were as many takes as puts. No bound comes there.
abbrev pub AreInOrder : Option ℕ → ℕ → ℕ → List Note → Type 0
AreInOrder most puts takes [] = Unit {0}
AreInOrder most puts takes (Bounds n ∷ notes) = ⊥
AreInOrder most puts takes (Puts n ∷ notes) = (n ≡ puts) × HasPlace most puts takes × AreInOrder most (suc puts) takes notes
AreInOrder most puts takes (Takes n ∷ notes) = (n ≡ takes) × (takes < puts) × AreInOrder most puts (suc takes) notes
AreInOrder most puts takes (Empties ∷ notes) = (takes ≡ puts) × AreInOrder most puts takes notes

-- a bound stands before all others, if there is one
abbrev pub AreOneThread : List Note → Type 0
AreOneThread (Bounds most ∷ notes) = AreInOrder (Some most) 0 0 notes
AreOneThread notes = AreInOrder None 0 0 notes

abbrev pub is_box : BoxName → BoxName → Bool
is_box a b = a.task == b.task && a.number == b.number

abbrev pub note_if : Bool → Note → List Note
note_if true note = note ∷ []
note_if false note = []

-- what an act says of a mailbox
abbrev pub notes_of_act : BoxName → Act → List Note
notes_of_act box (Bound other n) = note_if (is_box other box) (Bounds n)
notes_of_act box (Put other n shape) = note_if (is_box other box) (Puts n)
notes_of_act box (Take other n) = note_if (is_box other box) (Takes n)
notes_of_act box (Empty other) = note_if (is_box other box) Empties
notes_of_act box act = []

-- what a journal says of it, entry by entry
abbrev pub notes_of : BoxName → List Entry → List Note
notes_of box es = flat_map (λ (e : Entry). notes_of_act box e.act) es
