-- Making each element of a list, where there are all.
use Rattle.std.specs.Prelude.{Bool, true, false, List, Option, Some, None}

-- what was made, where that is all
abbrev pub if_all : {A : Type 0} → Bool → List A → Option (List A)
if_all true made = Some made
if_all false made = None
