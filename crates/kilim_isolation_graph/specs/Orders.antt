-- What the table of an order says of a number.
use Rattle.std.specs.Prelude.{◌≡◌, ℕ, suc, ◌<◌, Bool, true, false, List, length, get_or}
use Rattle.kilim_isolation_graph.specs.Canonical.{is_among, index_of}

abbrev pub marked : Bool → ℕ → ℕ
marked true at = suc at
marked false at = 0

-- one more than where it stands first, or 0 where it isn't there
abbrev pub mark_of : ℕ → List ℕ → ℕ
mark_of n numbers = marked (is_among n numbers) (index_of n numbers)

-- of each number below the table's length
abbrev pub AreMarks : List ℕ → List ℕ → Type 0
AreMarks table numbers = (n : ℕ) → n < length table → get_or table n 0 ≡ mark_of n numbers
