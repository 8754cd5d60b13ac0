-- Making each element of a list, where there are all.
use Rattle.std.specs.Prelude.{List, ◌++◌, Option, Some, None}

-- some that were made, and others behind them
abbrev pub behind : {A : Type 0} → List A → Option (List A) → Option (List A)
behind made None = None
behind made (Some others) = Some (made ++ others)
