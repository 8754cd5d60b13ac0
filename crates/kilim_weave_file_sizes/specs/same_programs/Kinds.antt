-- Instructions that are told apart by a number and by their operands: all but loads of constants of the pool, and switches.
use Rattle.std.specs.Prelude.{ℕ, ℤ, pos, Option, Some, None}
use Rattle.kilim_program.specs.declared.ty.Ty.{Ty}
use Rattle.kilim_program.specs.declared.instr.Instr.{Instr}
use Rattle.kilim_program.specs.declared.instr.Instr.TheVariants.{Nop, AconstNull, Iaload, Laload, Aaload, Baload, Caload, Saload, Iastore, Lastore, Aastore, Bastore, Castore, Sastore, Arraylength, Ireturn, Lreturn, Areturn, Return, Athrow, Pop, Pop2, Dup, DupX1, DupX2, Dup2, Dup2X1, Dup2X2, Swap, Iadd, Ladd, Isub, Lsub, Imul, Lmul, Idiv, Ldiv, Irem, Lrem, Ineg, Lneg, Ishl, Lshl, Ishr, Lshr, Iushr, Lushr, Iand, Land, Ior, Lor, Ixor, Lxor, I2l, L2i, I2b, I2c, I2s, Lcmp, Iconst, Lconst, Bipush, Sipush, Iload, Lload, Aload, Istore, Lstore, Astore, Iinc, Ifeq, Ifne, Iflt, Ifge, Ifgt, Ifle, Goto, Ifnull, Ifnonnull, GotoW, IfIcmpeq, IfIcmpne, IfIcmplt, IfIcmpge, IfIcmpgt, IfIcmple, IfAcmpeq, IfAcmpne, Getstatic, Getfield, Putfield, Invokevirtual, Invokespecial, Invokestatic, New, Newarray, Anewarray, Checkcast, Instanceof}
use Rattle.kilim_program.specs.BuiltIn.{plain_type}

-- that of one that names a class, a member or a type
unfoldable pub named_kind : Instr → ℕ
named_kind (Getstatic x) = 89
named_kind (Getfield x) = 90
named_kind (Putfield x) = 91
named_kind (Invokevirtual x) = 92
named_kind (Invokespecial x) = 93
named_kind (Invokestatic x) = 94
named_kind (New x) = 95
named_kind (Newarray x) = 96
named_kind (Anewarray x) = 97
named_kind (Checkcast x) = 98
named_kind (Instanceof x) = 99
named_kind i = 0

-- that of a jump, or of those below
unfoldable pub jump_kind : Instr → ℕ
jump_kind (Ifeq x) = 71
jump_kind (Ifne x) = 72
jump_kind (Iflt x) = 73
jump_kind (Ifge x) = 74
jump_kind (Ifgt x) = 75
jump_kind (Ifle x) = 76
jump_kind (Goto x) = 77
jump_kind (Ifnull x) = 78
jump_kind (Ifnonnull x) = 79
jump_kind (GotoW x) = 80
jump_kind (IfIcmpeq x) = 81
jump_kind (IfIcmpne x) = 82
jump_kind (IfIcmplt x) = 83
jump_kind (IfIcmpge x) = 84
jump_kind (IfIcmpgt x) = 85
jump_kind (IfIcmple x) = 86
jump_kind (IfAcmpeq x) = 87
jump_kind (IfAcmpne x) = 88
jump_kind i = named_kind i

-- that of one with a constant or a local, or of those below
unfoldable pub local_kind : Instr → ℕ
local_kind (Iconst x) = 60
local_kind (Lconst x) = 61
local_kind (Bipush x) = 62
local_kind (Sipush x) = 63
local_kind (Iload x) = 64
local_kind (Lload x) = 65
local_kind (Aload x) = 66
local_kind (Istore x) = 67
local_kind (Lstore x) = 68
local_kind (Astore x) = 69
local_kind (Iinc x y) = 70
local_kind i = jump_kind i

-- that of one that computes, or of those below
unfoldable pub sum_kind : Instr → ℕ
sum_kind Iadd = 30
sum_kind Ladd = 31
sum_kind Isub = 32
sum_kind Lsub = 33
sum_kind Imul = 34
sum_kind Lmul = 35
sum_kind Idiv = 36
sum_kind Ldiv = 37
sum_kind Irem = 38
sum_kind Lrem = 39
sum_kind Ineg = 40
sum_kind Lneg = 41
sum_kind Ishl = 42
sum_kind Lshl = 43
sum_kind Ishr = 44
sum_kind Lshr = 45
sum_kind Iushr = 46
sum_kind Lushr = 47
sum_kind Iand = 48
sum_kind Land = 49
sum_kind Ior = 50
sum_kind Lor = 51
sum_kind Ixor = 52
sum_kind Lxor = 53
sum_kind I2l = 54
sum_kind L2i = 55
sum_kind I2b = 56
sum_kind I2c = 57
sum_kind I2s = 58
sum_kind Lcmp = 59
sum_kind i = local_kind i

-- the number of an instruction's kind, from 1; 0 where it has none
unfoldable pub kind : Instr → ℕ
kind Nop = 1
kind AconstNull = 2
kind Iaload = 3
kind Laload = 4
kind Aaload = 5
kind Baload = 6
kind Caload = 7
kind Saload = 8
kind Iastore = 9
kind Lastore = 10
kind Aastore = 11
kind Bastore = 12
kind Castore = 13
kind Sastore = 14
kind Arraylength = 15
kind Ireturn = 16
kind Lreturn = 17
kind Areturn = 18
kind Return = 19
kind Athrow = 20
kind Pop = 21
kind Pop2 = 22
kind Dup = 23
kind DupX1 = 24
kind DupX2 = 25
kind Dup2 = 26
kind Dup2X1 = 27
kind Dup2X2 = 28
kind Swap = 29
kind i = sum_kind i

-- where a jump goes, or 0
unfoldable pub place_of : Instr → ℕ
place_of (Ifeq to) = to
place_of (Ifne to) = to
place_of (Iflt to) = to
place_of (Ifge to) = to
place_of (Ifgt to) = to
place_of (Ifle to) = to
place_of (Goto to) = to
place_of (Ifnull to) = to
place_of (Ifnonnull to) = to
place_of (GotoW to) = to
place_of (IfIcmpeq to) = to
place_of (IfIcmpne to) = to
place_of (IfIcmplt to) = to
place_of (IfIcmpge to) = to
place_of (IfIcmpgt to) = to
place_of (IfIcmple to) = to
place_of (IfAcmpeq to) = to
place_of (IfAcmpne to) = to
place_of i = 0

-- the local that is read or written, or 0
unfoldable pub slot_of : Instr → ℕ
slot_of (Iload slot) = slot
slot_of (Lload slot) = slot
slot_of (Aload slot) = slot
slot_of (Istore slot) = slot
slot_of (Lstore slot) = slot
slot_of (Astore slot) = slot
slot_of (Iinc slot by) = slot
slot_of i = 0

-- the number that is pushed or added, or 0
unfoldable pub number_of : Instr → ℤ
number_of (Iconst n) = n
number_of (Lconst n) = n
number_of (Bipush n) = n
number_of (Sipush n) = n
number_of (Iinc slot by) = by
number_of i = pos 0

-- the number of the class or the member, or 0
unfoldable pub name_of : Instr → ℕ
name_of (Getstatic x) = x.0
name_of (Getfield x) = x.0
name_of (Putfield x) = x.0
name_of (Invokevirtual x) = x.0
name_of (Invokespecial x) = x.0
name_of (Invokestatic x) = x.0
name_of (New x) = x.0
name_of i = 0

-- the type, or none
unfoldable pub type_of : Instr → Option Ty
type_of (Newarray base) = Some (plain_type base)
type_of (Anewarray ty) = Some ty
type_of (Checkcast ty) = Some ty
type_of (Instanceof ty) = Some ty
type_of i = None
