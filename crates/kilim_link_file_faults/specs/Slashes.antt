-- The parts of a name between slashes.
use Rattle.std.specs.Prelude.{ℕ, Bool, true, false, ◌&&◌, not, ◌==◌, if◌then◌else◌, List, [], ◌∷◌}

-- no part is empty, where it is known whether a part begins here
abbrev pub parts_from : Bool → List ℕ → Bool
parts_from begins [] = not begins
parts_from begins (u ∷ us) = if u == 47 then not begins && parts_from true us else parts_from false us
