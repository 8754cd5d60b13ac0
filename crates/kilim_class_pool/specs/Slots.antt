-- The entries of a list of slots.
use Rattle.std.specs.Prelude.{◌≡◌, ℕ, ◌+◌, ◌^◌, ◌<◌, List, [], ◌∷◌, length, Option, Some, None}
use Rattle.kilim_class_pool.specs.declared.entry.Entry.{Entry}
use Rattle.kilim_class_pool.specs.Entries.{slots_of}
use Rattle.kilim_class_pool.specs.Spelling.{entry_text, EntryFits}

abbrev pub present : List (Option Entry) → List Entry
present [] = []
present (Some entry ∷ slots) = entry ∷ present slots
present (None ∷ slots) = present slots

-- slots of some entries, not too many for indices of two bytes
pub record AreSlots (slots : List (Option Entry)) : Type 0 where
  pub whole : slots_of (present slots) ≡ slots
  pub few : length slots + 1 < 2 ^ 16

-- the text of what stands in a slot, and what has one
abbrev pub slot_text : Option Entry → List ℕ
slot_text None = []
slot_text (Some entry) = entry_text entry

abbrev pub SlotFits : Option Entry → Type 0
SlotFits None = Unit {0}
SlotFits (Some entry) = EntryFits entry
