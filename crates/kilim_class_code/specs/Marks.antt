-- The places of a code as marks on its bytes.
use Rattle.std.specs.Prelude.{ℕ, ◌<◌, Bool, false, ℤ, pos, negsuc, List, slice_index_or}
use Rattle.std.specs.List.{AllByRecursion}
use Rattle.kilim_class_code.specs.Code.{Placed}

-- the byte is there, and its mark is set
abbrev pub is_marked : List Bool → ℤ → Bool
is_marked marks (pos at) = slice_index_or marks at false
is_marked marks (negsuc n) = false

abbrev pub PlacesBelow : ℕ → List Placed → Type 0
PlacesBelow len code = AllByRecursion (λ p. p.0 < len) code
