-- The cell of a seat as a list of numbers: the task that is lent to it, and what that task began with and did.
use Rattle.std.specs.Prelude.{ℕ, List, [], ◌∷◌, Option, Some, None, map, slice_get}
use Rattle.std.specs.Coded.{Coded, codes}
use base.Stored.{Gv, gnil, gnum, gcons}
use Rattle.kilim_program.specs.Names.{◌>>=◌}
use Rattle.kilim_run_board.specs.declared.board.Board as kept
use Rattle.kilim_run_board.specs.Board.{Board}
use Rattle.kilim_run_board.specs.Seen.{seen}
use Rattle.kilim_run_model.specs.Course.{Course}
use Rattle.kilim_run_model.specs.Moving.{Books, books_from, first_books}

-- how a course is told from others
pub course_coded : Coded Course
course_coded = hlevel codes

-- a code, read out from left to right, before other numbers
abbrev pub read_out : Gv → List ℕ → List ℕ
read_out gnil rest = 0 ∷ rest
read_out (gnum n) rest = 1 ∷ n ∷ rest
read_out (gcons a b) rest = 2 ∷ read_out a (read_out b rest)

abbrev pub course_numbers : Option Course → List ℕ
course_numbers None = []
course_numbers (Some c) = read_out (course_coded.code c) []

-- a task with its course
abbrev pub lent_numbers : ℕ → Course → List ℕ
lent_numbers t c = t ∷ course_numbers (Some c)

abbrev pub cell_numbers : Option Books → Option ℕ → List ℕ
cell_numbers books None = []
cell_numbers books (Some t) = t ∷ course_numbers (books >>= λ (b : Books). slice_get b.courses t)

-- the cells of a board, with the courses that its journal gives
abbrev pub cells_of : {F : Type 0} → Board F → List (List ℕ)
cells_of b = map (cell_numbers (books_from first_books b.journal)) b.cells

abbrev pub board_cells : {F : Type 0} → kept.Board F → List (List ℕ)
board_cells b = cells_of (seen b)
