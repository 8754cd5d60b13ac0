-- Adding an entry to a pool.
use Rattle.std.specs.Prelude.{◌≡◌, ◌≢◌, ℕ, ◌+◌, ◌^◌, ◌<◌, ◌≤◌, List, [], ◌∷◌, ◌++◌, Option, Some, None, ◌⊎◌}
use Rattle.kilim_class_pool.specs.declared.entry.Entry.{Entry}
use Rattle.kilim_class_pool.specs.Entries.{width_of, slot, entry_at, count_of}

-- no index names an entry equal to this one
abbrev pub IsAbsent : List Entry → Entry → Type 0
IsAbsent entries entry = (index : ℕ) → entry_at entries index ≢ Some entry

-- the first index of an entry
pub record IsFirstIndex (entries : List Entry) (entry : Entry) (index : ℕ) : Type 0 where
  pub there : entry_at entries index ≡ Some entry
  pub first : (other : ℕ) → other < index → entry_at entries other ≢ Some entry

-- The entry was there, and its first index is answered; or it is appended, and its index is the old count.
abbrev pub Adds : List Entry → Entry → List Entry → ℕ → Type 0
Adds old entry new index = (IsFirstIndex old entry index × (new ≡ old)) ⊎ (IsAbsent old entry × (index ≡ count_of old) × (new ≡ old ++ entry ∷ []))

-- with this entry the count of a file would pass 65,535
pub record IsFull (old : List Entry) (entry : Entry) : Type 0 where
  pub absent : IsAbsent old entry
  pub full : 2 ^ 16 ≤ count_of old + width_of entry

-- ---- places among the slots, counted from 0

abbrev pub IsFirstPlace : List (Option Entry) → Entry → Option ℕ → Type 0
IsFirstPlace slots entry None = (k : ℕ) → slot slots k ≢ Some entry
IsFirstPlace slots entry (Some place) = (slot slots place ≡ Some entry) × ((k : ℕ) → k < place → slot slots k ≢ Some entry)
