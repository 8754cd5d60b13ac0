-- What pieces of text are written as.
use Rattle.std.specs.Prelude.{ℕ, ◌==◌, if◌then◌else◌, List, [], ◌∷◌, codes}
use Rattle.std.specs.List.{flat_map}

-- a byte that isn't taken for markup: one that is, is written by its name (XML 1.0, 2.4)
abbrev pub shown : ℕ → List ℕ
shown c = if c == 38 then codes "&amp;" else (if c == 60 then codes "&lt;" else (if c == 62 then codes "&gt;" else (if c == 34 then codes "&quot;" else c ∷ [])))

abbrev pub shown_text : List ℕ → List ℕ
shown_text text = flat_map shown text
