-- Text goes to the sink in pieces.
use Rattle.std.specs.Prelude.{◌≡◌, ℕ, List, ◌++◌, Option}
use Rattle.kilim_outside.specs.Causes.{Appended}

-- the most bytes of a piece
unfoldable pub piece_limit : ℕ
piece_limit = 4096

-- where the sink tells: a front of the text came to it
abbrev pub AppendedFront : Option (List ℕ) → Option (List ℕ) → List ℕ → Type 0
AppendedFront old new text = (done : List ℕ) × (rest : List ℕ) × (done ++ rest ≡ text) × Appended old new done
