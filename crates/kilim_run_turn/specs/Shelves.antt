-- The one word and the one slot of a turn's table.
use Rattle.std.specs.Prelude.{◌≡◌}
use Rattle.atomic_table.specs.Seated.{TableId}

-- a table has one word and one slot, and a seat is of this table
pub record IsAt (z seat : TableId) : Type 0 where
  pub words : z.words ≡ 1
  pub slots : z.slots ≡ 1
  pub same : seat ≡ z
