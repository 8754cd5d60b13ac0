-- Lists that are kept in parts.
use Rattle.std.specs.Prelude.{List, [], ◌∷◌, ◌++◌}

-- the parts, one behind the other
abbrev pub joined : {A : Type 0} → List (List A) → List A
joined [] = []
joined (part ∷ parts) = part ++ joined parts
