-- The list of shapes that is drawn of rows.
use Rattle.std.specs.Prelude.{ℕ, suc, Bool, false, ◌&&◌, ◌==◌, if◌then◌else◌, Option, Some, None, List, [], ◌∷◌, ◌++◌, length}
use Rattle.kilim_chart.specs.declared.rows.Deed.{Deed}
use Rattle.kilim_chart.specs.declared.rows.Deed.TheVariants.{Put, Take, Start}
use Rattle.kilim_chart.specs.declared.rows.MessageName.{MessageName}
use Rattle.kilim_chart.specs.declared.rows.Row.{Row}
use Rattle.kilim_chart.specs.declared.shapes.Shape.{Shape}
use Rattle.kilim_chart.specs.declared.shapes.Shape.TheVariants.{Mark, Arrow, Begins}

abbrev pub same_message : MessageName → MessageName → Bool
same_message a b = (b.mailbox.task == a.mailbox.task && b.mailbox.number == a.mailbox.number) && b.number == a.number

-- whether it is the put of a message
abbrev pub is_put_of : MessageName → Deed → Bool
is_put_of m (Put n) = same_message n m
is_put_of m deed = false

-- Where the last put of a message stands, of rows that are counted from a number on; or what was found before.
abbrev pub last_put : MessageName → ℕ → Option ℕ → List Row → Option ℕ
last_put m n found [] = found
last_put m n found (r ∷ rs) = last_put m (suc n) (if is_put_of m r.deed then Some n else found) rs

abbrev pub put_of : MessageName → List Row → Option ℕ
put_of m rows = last_put m 0 None rows

abbrev pub arrow_from : Option ℕ → ℕ → List Shape
arrow_from None row = []
arrow_from (Some put) row = Arrow put row ∷ []

-- the arrow that ends or begins at a row: from where the message was put that it takes, if that is known; to the task that it starts
abbrev pub arrows_at : (MessageName → Option ℕ) → ℕ → Deed → List Shape
arrows_at found row (Take m) = arrow_from (found m) row
arrows_at found row (Start task) = Begins row task ∷ []
arrows_at found row deed = []

-- The mark and the arrows of a row, behind others: what it takes was put last, of these, in the row that the arrow comes from.
abbrev pub shapes_at : List Row → Row → List Shape
shapes_at before r = Mark (length before) ∷ arrows_at (λ m. put_of m before) (length before) r.deed

abbrev pub shapes_behind : List Row → List Row → List Shape
shapes_behind before [] = []
shapes_behind before (r ∷ rs) = shapes_at before r ++ shapes_behind (before ++ r ∷ []) rs

-- the shapes of rows, row by row
abbrev pub shapes_of : List Row → List Shape
shapes_of rows = shapes_behind [] rows
