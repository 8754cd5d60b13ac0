-- Numbers as words: decimal, without a plus and without leading zeros.
use Rattle.std.specs.Prelude.{ℕ, ℤ, pos, neg_ℤ, Bool, true, false, ◌&&◌, ◌||◌, not, ◌==◌, nat_le, if◌then◌else◌, List, [], ◌∷◌, Option, Some, None}
use Rattle.std.specs.List.{list_all}
use Rattle.std.specs.Str.Parse.{digits_value}
use Rattle.kilim_units.specs.Characters.{digit_0, digit_9}

abbrev pub is_digit : ℕ → Bool
is_digit b = nat_le digit_0 b && nat_le b digit_9

abbrev pub is_alone : List ℕ → Bool
is_alone [] = true
is_alone (b ∷ bs) = false

-- one digit or more; a zero stands first only where it stands alone
abbrev pub is_number : List ℕ → Bool
is_number [] = false
is_number (b ∷ bs) = list_all is_digit (b ∷ bs) && (not (b == digit_0) || is_alone bs)

abbrev pub in_range : ℕ → ℕ → ℕ → Option ℕ
in_range least most n = if nat_le least n && nat_le n most then Some n else None

-- the number that a word writes, from `least` to `most`
abbrev pub number_in : ℕ → ℕ → List ℕ → Option ℕ
number_in least most word = if is_number word then in_range least most (digits_value 10 word) else None

-- an integer of 32 bits, with a minus where it is below zero
abbrev pub as_positive : Option ℕ → Option ℤ
as_positive None = None
as_positive (Some n) = Some (pos n)

abbrev pub as_negative : Option ℕ → Option ℤ
as_negative None = None
as_negative (Some n) = Some (neg_ℤ (pos n))

abbrev pub most_int : ℕ
most_int = 2147483647

-- by what stands behind a minus
abbrev pub int_by : List ℕ → Option (List ℕ) → Option ℤ
int_by word None = as_positive (number_in 0 most_int word)
int_by word (Some digits) = as_negative (number_in 1 2147483648 digits)
