-- New places of old ones, and of resume blocks, by tables.
use Rattle.std.specs.Prelude.{ℕ, ◌+◌, List, Option, Some, None, get_or}

-- the tables; behind `end` are the numbers that no old place has
pub record Tables : Type 0 where
  pub old : List (Option ℕ)
  pub blocks : List (Option ℕ)
  pub end : ℕ

abbrev pub or_else : ℕ → Option ℕ → ℕ
or_else other None = other
or_else other (Some place) = place

abbrev pub at_in : Tables → ℕ → ℕ
at_in tables place = or_else (tables.end + place) (get_or tables.old place None)

abbrev pub block_in : Tables → ℕ → ℕ
block_in tables number = or_else 0 (get_or tables.blocks number None)
