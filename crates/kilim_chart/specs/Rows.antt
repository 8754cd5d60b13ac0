-- The rows of a chart: the entries that are chosen, in their order.
use Rattle.std.specs.Prelude.{ℕ, suc, Bool, ◌&&◌, ◌||◌, ◌==◌, nat_le, if◌then◌else◌, List, [], ◌∷◌}
use Rattle.std.specs.List.{list_any}
use Rattle.kilim_run_journal.specs.declared.entry.Act.{Act}
use Rattle.kilim_run_journal.specs.declared.entry.Act.TheVariants as act
use Rattle.kilim_run_journal.specs.declared.entry.Entry.{Entry}
use Rattle.kilim_chart.specs.declared.rows.Choice.{Choice}
use Rattle.kilim_chart.specs.declared.rows.Deed.{Deed}
use Rattle.kilim_chart.specs.declared.rows.Deed.TheVariants.{Put, Take, Empty, Start, Print, End, Wait, Bound}
use Rattle.kilim_chart.specs.declared.rows.Row.{Row}

-- what an act is, without its values
abbrev pub deed_of : Act → Deed
deed_of (act.Put box n shape) = Put (record { mailbox = box; number = n })
deed_of (act.Take box n) = Take (record { mailbox = box; number = n })
deed_of (act.Empty box) = Empty box
deed_of (act.Start task shape) = Start task
deed_of (act.Print shape) = Print
deed_of (act.End cause) = End cause
deed_of (act.Wait box) = Wait box
deed_of (act.Bound box most) = Bound box

-- no task chosen stands for all of them
abbrev pub is_empty : List ℕ → Bool
is_empty [] = Bool.true
is_empty (t ∷ ts) = Bool.false

-- whether a choice has the entry of a line, counted from 1
abbrev pub is_chosen : Choice → ℕ → Entry → Bool
is_chosen choice line e =
    (nat_le choice.from line && nat_le line choice.to) && (is_empty choice.tasks || list_any (λ t. e.task == t) choice.tasks)

abbrev pub row_of : ℕ → Entry → Row
row_of line e = record { line = line; task = e.task; deed = deed_of e.act }

-- the rows of the entries from a line on
abbrev pub rows_from : Choice → ℕ → List Entry → List Row
rows_from choice line [] = []
rows_from choice line (e ∷ es) =
    if is_chosen choice line e then row_of line e ∷ rows_from choice (suc line) es else rows_from choice (suc line) es
