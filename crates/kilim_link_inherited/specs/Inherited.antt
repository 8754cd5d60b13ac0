-- What classes inherit, by their lines and what each class says.
use Rattle.std.specs.Prelude.{ℕ, zero, suc, length, ◌==◌, if◌then◌else◌, List, [], ◌∷◌, Option, Some, None, slice_get, unwrap_or}
use Rattle.kilim_program.specs.declared.names.ClassId.{ClassId}
use Rattle.kilim_link_inherited.specs.declared.entry.Entry.{Entry}

-- what some entries say of a key: the first that has it
abbrev pub said_in : List Entry → ℕ → Option (Option ℕ)
said_in [] k = None
said_in (e ∷ es) k = if e.key == k then Some e.value else said_in es k

-- the entries of a class, none past the end
abbrev pub said_of : Option (List Entry) → ℕ → Option (Option ℕ)
said_of None k = None
said_of (Some es) k = said_in es k

-- what a class says of a key
abbrev pub said_at : List (List Entry) → ℕ → ClassId → Option (Option ℕ)
said_at entries k c = said_of (slice_get entries c.0) k

-- what was said, else what comes later
abbrev pub said_or : Option (Option ℕ) → Option ℕ → Option ℕ
said_or None later = later
said_or (Some value) later = value

-- what the first class of a line that says something of a key says
abbrev pub inherited : List (List Entry) → ℕ → List ClassId → Option ℕ
inherited entries k [] = None
inherited entries k (c ∷ line) = said_or (said_at entries k c) (inherited entries k line)

-- the superclass of a class, none past the end
abbrev pub up_in : List (Option ClassId) → ClassId → Option ClassId
up_in ups c = unwrap_or (slice_get ups c.0) None

-- a class, its superclass, and so on up; at most so many
abbrev pub line_up : List (Option ClassId) → ℕ → ClassId → List ClassId
line_up ups zero c = []
line_up ups (suc n) c = c ∷ elim (up_in ups c) [ None ↦ [] | Some up ↦ line_up ups n up ]

-- the line of a class, at most as long as there are classes: one that is its own ancestor is met again
abbrev pub line_in : List (Option ClassId) → ClassId → List ClassId
line_in ups c = line_up ups (length ups) c

-- what there is of a superclass, none where there is none
abbrev pub from_above : (ClassId → Option ℕ) → Option ClassId → Option ℕ
from_above value None = None
from_above value (Some up) = value up
