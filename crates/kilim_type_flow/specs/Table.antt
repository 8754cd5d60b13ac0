-- A table of live slots: for each local a column, with a mark for each place.
use Rattle.std.specs.Prelude.{ℕ, Bool, false, List, [], get_or}

-- whether a local is live at a place; not past the table
abbrev pub live_in : List (List Bool) → ℕ → ℕ → Bool
live_in columns place slot = get_or (get_or columns slot []) place false
