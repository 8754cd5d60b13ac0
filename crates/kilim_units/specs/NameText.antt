-- The text of a name in reports and journals.
use Rattle.std.specs.Prelude.{ℕ, ◌+◌, ◌/◌, ◌%◌, Bool, ◌&&◌, ◌||◌, nat_le, nat_lt, ◌==◌, if◌then◌else◌, List, [], ◌∷◌}
use Rattle.std.specs.List.{flat_map}
use Rattle.kilim_units.specs.Characters.{dollar_sign, slash, digit_0, digit_9, semicolon, upper_a, upper_z, left_bracket, backslash, underscore, lower_a, lower_u, lower_z}

-- a hexadecimal digit, in lower case
abbrev pub hex_digit : ℕ → ℕ
hex_digit d = if nat_lt d 10 then 48 + d else 87 + d

-- a unit that doesn't stand for itself: \u and four hexadecimal digits
abbrev pub escape : ℕ → List ℕ
escape u = backslash ∷ lower_u ∷ hex_digit (u / 4096) ∷ hex_digit (u / 256 % 16) ∷ hex_digit (u / 16 % 16) ∷ hex_digit (u % 16) ∷ []

abbrev pub is_within : ℕ → ℕ → ℕ → Bool
is_within low high u = nat_le low u && nat_le u high

-- in a name the ASCII letters and digits stand for themselves, and _ $ / [ ;
abbrev pub stands_in_name : ℕ → Bool
stands_in_name u = is_within lower_a lower_z u || is_within upper_a upper_z u || is_within digit_0 digit_9 u || u == underscore || u == dollar_sign || u == slash || u == left_bracket || u == semicolon

abbrev pub name_unit : ℕ → List ℕ
name_unit u = if stands_in_name u then u ∷ [] else escape u

abbrev pub name_text : List ℕ → List ℕ
name_text units = flat_map name_unit units
