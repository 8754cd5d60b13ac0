-- The text of a value in bytes: each value has one spelling.
use Rattle.std.specs.Prelude.{ℕ, ℤ, List, ◌++◌, length}
use Rattle.std.specs.List.{flat_map}
use Rattle.std.specs.Int.{Width, w8, w16, w32, w64, to_be_bytes, cast_unsigned}

-- numbers of one, two and four bytes, the highest byte first (JVMS 4: u1, u2, u4)
abbrev pub u1 : ℕ → List ℕ
u1 n = to_be_bytes w8 n

abbrev pub u2 : ℕ → List ℕ
u2 n = to_be_bytes w16 n

abbrev pub u4 : ℕ → List ℕ
u4 n = to_be_bytes w32 n

-- a number of eight bytes: two of four, the higher first
abbrev pub two_u4 : ℕ → List ℕ
two_u4 n = to_be_bytes w64 n

-- a signed number in two's complement
abbrev pub signed : Width → ℤ → List ℕ
signed w z = to_be_bytes w (cast_unsigned w z)

-- a count of two bytes, and the text of each
abbrev pub list_text : {A : Type 0} → (A → List ℕ) → List A → List ℕ
list_text text xs = u2 (length xs) ++ flat_map text xs
