-- The lines of reports, and that of accepted files. Each ends with a line feed.
use Rattle.std.specs.Prelude.{ℕ, List, ◌++◌, codes}
use Rattle.std.specs.List.{flat_map}
use Rattle.std.specs.Fmt.{decimal}
use Rattle.std.specs.Char.Escape.{encode_utf16}
use Rattle.std.specs.Str.{chars}
use Rattle.kilim_units.specs.NameText.{name_text}

-- a text as UTF-16 units
abbrev pub utf16_of : List ℕ → List ℕ
utf16_of text = flat_map encode_utf16 (chars text)

-- no class of that name is fit to be the main class: the name stands as names do in a journal
abbrev pub named_line : List ℕ → List ℕ
named_line name = codes "main " ++ (name_text name ++ codes "\n")

-- the same of a name as the words give it
abbrev pub main_line : List ℕ → List ℕ
main_line main = named_line (utf16_of main)

-- so many classes of the files, and so many methods with code, are accepted
abbrev pub accepted_line : ℕ → ℕ → List ℕ
accepted_line classes methods = codes "accepted " ++ (decimal classes ++ (codes " " ++ (decimal methods ++ codes "\n")))
