-- Empty seats.
use Rattle.std.proofs.Common.{◌≡◌, ℕ, zero, suc, List, [], ◌∷◌, Option, None, map, refl, ap, ◌∙◌}
use Rattle.std.specs.Prelude.{replicate}
use Rattle.kilim_run_model.specs.Moving.{books_from, first_books}
use Rattle.kilim_run_board.specs.Board.{Board}
use Rattle.kilim_run_workers.specs.Codes.{cell_numbers, cells_of}

all_free : (f : Option ℕ → List ℕ) → f None ≡ [] → (n : ℕ) → map f (replicate n None) ≡ replicate n []
all_free f e zero = refl
all_free f e (suc n) = λ i. e i ∷ all_free f e n i

-- they have no numbers
pub seats_free : {F : Type 0} (b : Board F) (n : ℕ) → b.cells ≡ replicate n None → cells_of b ≡ replicate n []
seats_free b n cells = ap (map (cell_numbers (books_from first_books b.journal))) cells ∙ all_free (cell_numbers (books_from first_books b.journal)) refl n
