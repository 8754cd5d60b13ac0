-- Which operation of the table an operation of the code is.
use Rattle.std.specs.Prelude.{ℕ, ℤ, pos, Bool, true, false, not, int_lt, int_rem}
use Rattle.std.specs.Int.{w32, w64, int_wrapping_add, int_wrapping_sub, int_wrapping_mul, int_wrapping_div, int_wrapping_neg, int_bit_and, int_bit_or, int_bit_xor}
use Rattle.std.specs.Ordering.{int_eq}
use Rattle.kilim_run_machine.specs.Does.{shifted_left, shifted_right, shifted_down, long_left, long_right, long_down, to_byte, to_char, to_short}
use Rattle.kilim_run_rows.specs.declared.numbers.Binary.{Binary}
use Rattle.kilim_run_rows.specs.declared.numbers.Binary.TheVariants.{Add, Sub, Mul, And, Or, Xor}
use Rattle.kilim_run_rows.specs.declared.numbers.Division.{Division}
use Rattle.kilim_run_rows.specs.declared.numbers.Division.TheVariants.{Quotient, Remainder}
use Rattle.kilim_run_rows.specs.declared.numbers.Shift.{Shift}
use Rattle.kilim_run_rows.specs.declared.numbers.Shift.TheVariants.{Left, Right, Down}
use Rattle.kilim_run_rows.specs.declared.numbers.Unary.{Unary}
use Rattle.kilim_run_rows.specs.declared.numbers.Unary.TheVariants.{Negated, Byte, Char, Short}
use Rattle.kilim_run_rows.specs.declared.numbers.Test.{Test}
use Rattle.kilim_run_rows.specs.declared.numbers.Test.TheVariants.{Eq, Ne, Lt, Ge, Gt, Le}

abbrev pub int_of : Binary → ℤ → ℤ → ℤ
int_of Add = int_wrapping_add w32
int_of Sub = int_wrapping_sub w32
int_of Mul = int_wrapping_mul w32
int_of And = int_bit_and w32
int_of Or = int_bit_or w32
int_of Xor = int_bit_xor w32

abbrev pub long_of : Binary → ℤ → ℤ → ℤ
long_of Add = int_wrapping_add w64
long_of Sub = int_wrapping_sub w64
long_of Mul = int_wrapping_mul w64
long_of And = int_bit_and w64
long_of Or = int_bit_or w64
long_of Xor = int_bit_xor w64

abbrev pub int_quotient : Division → ℤ → ℤ → ℤ
int_quotient Quotient = int_wrapping_div w32
int_quotient Remainder = int_rem

abbrev pub long_quotient : Division → ℤ → ℤ → ℤ
long_quotient Quotient = int_wrapping_div w64
long_quotient Remainder = int_rem

abbrev pub int_shift : Shift → ℤ → ℤ → ℤ
int_shift Left = shifted_left
int_shift Right = shifted_right
int_shift Down = shifted_down

abbrev pub long_shift_of : Shift → ℤ → ℤ → ℤ
long_shift_of Left = long_left
long_shift_of Right = long_right
long_shift_of Down = long_down

abbrev pub int_of_one : Unary → ℤ → ℤ
int_of_one Negated = int_wrapping_neg w32
int_of_one Byte = to_byte
int_of_one Char = to_char
int_of_one Short = to_short

abbrev pub holds : Test → ℤ → ℤ → Bool
holds Eq a b = int_eq a b
holds Ne a b = not (int_eq a b)
holds Lt a b = int_lt a b
holds Ge a b = not (int_lt a b)
holds Gt a b = int_lt b a
holds Le a b = not (int_lt b a)

-- the test itself, or its opposite
abbrev pub kept_if : Bool → Bool → Bool
kept_if true b = b
kept_if false b = not b
