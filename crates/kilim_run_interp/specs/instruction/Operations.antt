-- Which operation an instruction names, of those that differ in one word.
use Rattle.kilim_program.specs.declared.instr.Instr.{Instr}
use Rattle.kilim_program.specs.declared.instr.Instr.TheVariants.{Ladd, Lsub, Lmul, Ishl, Lshl, Ishr, Lshr, Land, Lor, I2b, I2c, I2s}
use Rattle.kilim_run_rows.specs.declared.numbers.Binary.{Binary}
use Rattle.kilim_run_rows.specs.declared.numbers.Binary.TheVariants.{Add, Sub, Mul, And, Or, Xor}
use Rattle.kilim_run_rows.specs.declared.numbers.Shift.{Shift}
use Rattle.kilim_run_rows.specs.declared.numbers.Shift.TheVariants.{Left, Right, Down}
use Rattle.kilim_run_rows.specs.declared.numbers.Unary.{Unary}
use Rattle.kilim_run_rows.specs.declared.numbers.Unary.TheVariants.{Negated, Byte, Char, Short}

-- of two longs
abbrev pub binary_of : Instr → Binary
binary_of Ladd = Add
binary_of Lsub = Sub
binary_of Lmul = Mul
binary_of Land = And
binary_of Lor = Or
binary_of _ = Xor

-- of an int or a long
abbrev pub shift_of : Instr → Shift
shift_of Ishl = Left
shift_of Lshl = Left
shift_of Ishr = Right
shift_of Lshr = Right
shift_of _ = Down

-- of one int
abbrev pub unary_of : Instr → Unary
unary_of I2b = Byte
unary_of I2c = Char
unary_of I2s = Short
unary_of _ = Negated
