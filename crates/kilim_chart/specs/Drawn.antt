-- What the list of shapes has of each row: how often a mark, and how often an arrow, stands in it.
use Rattle.std.specs.Prelude.{◌≡◌, ℕ, ◌+◌, Bool, true, false, ◌&&◌, ◌==◌, nat_lt, Option, Some, None, List, [], ◌∷◌, length, take, slice_get}
use Rattle.kilim_chart.specs.declared.rows.Deed.{Deed}
use Rattle.kilim_chart.specs.declared.rows.Deed.TheVariants.{Take}
use Rattle.kilim_chart.specs.declared.rows.Row.{Row}
use Rattle.kilim_chart.specs.declared.shapes.Shape.{Shape}
use Rattle.kilim_chart.specs.declared.shapes.Shape.TheVariants.{Mark, Arrow}
use Rattle.kilim_chart.specs.Shapes.{put_of, shapes_of}

abbrev pub one_if : Bool → ℕ
one_if true = 1
one_if false = 0

abbrev pub how_many : (Shape → Bool) → List Shape → ℕ
how_many test [] = 0
how_many test (s ∷ ss) = one_if (test s) + how_many test ss

abbrev pub is_mark : ℕ → Shape → Bool
is_mark row (Mark one) = one == row
is_mark row s = false

abbrev pub is_arrow : ℕ → ℕ → Shape → Bool
is_arrow put taken (Arrow one other) = one == put && other == taken
is_arrow put taken s = false

abbrev pub is_row : Option ℕ → ℕ → Bool
is_row None put = false
is_row (Some one) put = one == put

-- whether a deed takes the message that was put last, of the rows before, in that row
abbrev pub takes_from : List Row → ℕ → Deed → Bool
takes_from before put (Take m) = is_row (put_of m before) put
takes_from before put deed = false

abbrev pub leads_to : List Row → ℕ → Option Row → Bool
leads_to before put None = false
leads_to before put (Some r) = takes_from before put r.deed

-- whether a row, the second, takes what the first one puts: the last put of the message before it
abbrev pub leads : List Row → ℕ → ℕ → Bool
leads rows put taken = leads_to (take taken rows) put (slice_get rows taken)

-- each row has one mark, and no other row has one; each put and its take have one arrow, and no other rows have one
pub record AllAreDrawn : Type 0 where
  pub marks : (rows : List Row) (row : ℕ) → how_many (is_mark row) (shapes_of rows) ≡ one_if (nat_lt row (length rows))
  pub arrows : (rows : List Row) (put taken : ℕ) → how_many (is_arrow put taken) (shapes_of rows) ≡ one_if (leads rows put taken)
