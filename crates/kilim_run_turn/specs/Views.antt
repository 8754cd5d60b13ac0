-- Views of seats, as total functions, and what a step makes of a view.
use Rattle.std.specs.Prelude.{ℕ, ◌+◌, true, false, List, [], ◌∷◌, ◌++◌, length, slice_index_or, slice_set}
use Rattle.atomic_table.specs.Seated.{TableId}
use Rattle.atomic_table.specs.declared.badge.Badge.{Badge}
use Rattle.kilim_run_turn.specs.declared.view.View.{View}
use Rattle.kilim_run_turn.specs.declared.view.Stage.TheVariants.{Fresh, Opening, Outside, Inside, Aside}

abbrev pub cell_at : List (List ℕ) → ℕ → List ℕ
cell_at cells n = slice_index_or cells n []

-- the name of a table, as a view has it
abbrev pub named : TableId → Badge (Unit {0})
named z = record { marker = record {}; table_id = z; id = 0; views = [] }

abbrev pub no_table : TableId
no_table = record { words = 0; slots = 0; views_name = 0; atom = 0; block = 0; offset = 0; slot_names = [] }

-- the first seat, as the table is made
abbrev pub fresh : List (List ℕ) → View
fresh cells = record { stage = Fresh; of = named no_table; seats = length cells; number = 0; shown = cell_at cells 0 ∷ []; made = 1; carries = true; list = cells }

-- the first seat, of q, while it makes the others
abbrev pub opener : TableId → ℕ → ℕ → List (List ℕ) → View
opener z q made cells = record { stage = Opening; of = named z; seats = q; number = 0; shown = cell_at cells 0 ∷ []; made = made; carries = true; list = cells }

-- a worker's seat, of q, that has the number n and shows the cells of n and the next numbers
abbrev pub worker : TableId → ℕ → ℕ → List (List ℕ) → View
worker z q n shown = record { stage = Outside; of = named z; seats = q; number = n; shown = shown; made = 0; carries = false; list = [] }

-- the same, with the turn, and with the list
abbrev pub holder : TableId → ℕ → ℕ → List (List ℕ) → List (List ℕ) → View
holder z q n shown list = record { stage = Inside; of = named z; seats = q; number = n; shown = shown; made = 0; carries = true; list = list }

abbrev pub note : List (List ℕ) → View
note list = record { stage = Aside; of = named no_table; seats = 0; number = 0; shown = []; made = 0; carries = true; list = list }

abbrev pub spent : View
spent = record { stage = Aside; of = named no_table; seats = 0; number = 0; shown = []; made = 0; carries = false; list = [] }

-- the first seat learns which table it is of
abbrev pub as_opener : TableId → View → View
as_opener z v = record v { stage = Opening; of = named z }

-- it gives out one more number
abbrev pub made_more : View → View
made_more v = record v { made = v.made + 1 }

abbrev pub next_worker : View → View
next_worker v = worker v.of.table_id v.seats v.made (cell_at v.list v.made ∷ [])

-- it takes the turn, as a worker
abbrev pub begun : View → View
begun v = record v { stage = Inside; made = 0 }

abbrev pub inside : View → View
inside v = record v { stage = Inside }

abbrev pub outside : View → View
outside v = record v { stage = Outside }

-- it takes in the note w
abbrev pub joined : View → View → View
joined v w = record v { carries = true; list = w.list }

-- its cell becomes this one
abbrev pub posted : List ℕ → View → View
posted cell v = record v { shown = cell ∷ []; list = slice_set v.list v.number cell }

-- it gives the list to the note
abbrev pub bare : View → View
bare v = record v { carries = false; list = [] }

abbrev pub note_of : View → View
note_of v = note v.list

-- it takes over the numbers of w
abbrev pub both : View → View → View
both v w = record v { shown = v.shown ++ w.shown }
