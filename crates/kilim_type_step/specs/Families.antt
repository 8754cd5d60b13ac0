-- The instructions of each function of the code.
use Rattle.std.specs.Prelude.{Bool, true, false}
use Rattle.kilim_program.specs.declared.instr.Instr.{Instr}
use Rattle.kilim_program.specs.declared.instr.Instr.TheVariants.{Nop, AconstNull, Iconst, Lconst, Bipush, Sipush, Ldc, LdcW, Ldc2W, Iload, Lload, Aload, Iaload, Laload, Aaload, Baload, Caload, Saload, Istore, Lstore, Astore, Iastore, Lastore, Aastore, Bastore, Castore, Sastore, Pop, Pop2, Dup, DupX1, DupX2, Dup2, Dup2X1, Dup2X2, Swap, Iadd, Ladd, Isub, Lsub, Imul, Lmul, Idiv, Ldiv, Irem, Lrem, Ineg, Lneg, Ishl, Lshl, Ishr, Lshr, Iushr, Lushr, Iand, Land, Ior, Lor, Ixor, Lxor, Iinc, I2l, L2i, I2b, I2c, I2s, Lcmp, Ifeq, Ifne, Iflt, Ifge, Ifgt, Ifle, IfIcmpeq, IfIcmpne, IfIcmplt, IfIcmpge, IfIcmpgt, IfIcmple, IfAcmpeq, IfAcmpne, Goto, Tableswitch, Lookupswitch, Ireturn, Lreturn, Areturn, Return, Getstatic, Getfield, Putfield, Invokevirtual, Invokespecial, Invokestatic, New, Newarray, Anewarray, Arraylength, Checkcast, Instanceof, Ifnull, Ifnonnull, GotoW, Athrow}

-- arithmetic and conversions
abbrev pub is_arithmetic : Instr → Bool
is_arithmetic Iadd = true
is_arithmetic Ladd = true
is_arithmetic Isub = true
is_arithmetic Lsub = true
is_arithmetic Imul = true
is_arithmetic Lmul = true
is_arithmetic Idiv = true
is_arithmetic Ldiv = true
is_arithmetic Irem = true
is_arithmetic Lrem = true
is_arithmetic Ineg = true
is_arithmetic Lneg = true
is_arithmetic Ishl = true
is_arithmetic Lshl = true
is_arithmetic Ishr = true
is_arithmetic Lshr = true
is_arithmetic Iushr = true
is_arithmetic Lushr = true
is_arithmetic Iand = true
is_arithmetic Land = true
is_arithmetic Ior = true
is_arithmetic Lor = true
is_arithmetic Ixor = true
is_arithmetic Lxor = true
is_arithmetic I2l = true
is_arithmetic L2i = true
is_arithmetic I2b = true
is_arithmetic I2c = true
is_arithmetic I2s = true
is_arithmetic Lcmp = true
is_arithmetic _ = false

-- those whose operands depend on nothing: constants, jumps, elements of arrays of primitive types, and arithmetic
abbrev pub is_plain : Instr → Bool
is_plain Nop = true
is_plain AconstNull = true
is_plain (Iconst a) = true
is_plain (Lconst a) = true
is_plain (Bipush a) = true
is_plain (Sipush a) = true
is_plain Iaload = true
is_plain Laload = true
is_plain Baload = true
is_plain Caload = true
is_plain Saload = true
is_plain Iastore = true
is_plain Lastore = true
is_plain Bastore = true
is_plain Castore = true
is_plain Sastore = true
is_plain Arraylength = true
is_plain (Ifeq a) = true
is_plain (Ifne a) = true
is_plain (Iflt a) = true
is_plain (Ifge a) = true
is_plain (Ifgt a) = true
is_plain (Ifle a) = true
is_plain (IfIcmpeq a) = true
is_plain (IfIcmpne a) = true
is_plain (IfIcmplt a) = true
is_plain (IfIcmpge a) = true
is_plain (IfIcmpgt a) = true
is_plain (IfIcmple a) = true
is_plain (Goto a) = true
is_plain (Tableswitch a b c) = true
is_plain (Lookupswitch a b) = true
is_plain (GotoW a) = true
is_plain i = is_arithmetic i

-- constants of the pool
abbrev pub is_constant : Instr → Bool
is_constant (Ldc a) = true
is_constant (LdcW a) = true
is_constant (Ldc2W a) = true
is_constant _ = false

-- loads and stores of locals
abbrev pub is_local : Instr → Bool
is_local (Iload a) = true
is_local (Lload a) = true
is_local (Aload a) = true
is_local (Istore a) = true
is_local (Lstore a) = true
is_local (Astore a) = true
is_local (Iinc a b) = true
is_local _ = false

-- elements of arrays of references
abbrev pub is_reference_element : Instr → Bool
is_reference_element Aaload = true
is_reference_element Aastore = true
is_reference_element _ = false

-- pop, dup and swap forms
abbrev pub is_shuffle : Instr → Bool
is_shuffle Pop = true
is_shuffle Pop2 = true
is_shuffle Dup = true
is_shuffle DupX1 = true
is_shuffle DupX2 = true
is_shuffle Dup2 = true
is_shuffle Dup2X1 = true
is_shuffle Dup2X2 = true
is_shuffle Swap = true
is_shuffle _ = false

-- returns
abbrev pub is_return : Instr → Bool
is_return Ireturn = true
is_return Lreturn = true
is_return Areturn = true
is_return Return = true
is_return _ = false

-- fields and calls
abbrev pub is_member : Instr → Bool
is_member (Getstatic a) = true
is_member (Getfield a) = true
is_member (Putfield a) = true
is_member (Invokevirtual a) = true
is_member (Invokespecial a) = true
is_member (Invokestatic a) = true
is_member _ = false

-- new objects and arrays, casts, and what is thrown
abbrev pub is_made : Instr → Bool
is_made (New a) = true
is_made (Newarray a) = true
is_made (Anewarray a) = true
is_made (Checkcast a) = true
is_made (Instanceof a) = true
is_made Athrow = true
is_made _ = false

-- tests of references
abbrev pub is_reference_jump : Instr → Bool
is_reference_jump (IfAcmpeq a) = true
is_reference_jump (IfAcmpne a) = true
is_reference_jump (Ifnull a) = true
is_reference_jump (Ifnonnull a) = true
is_reference_jump _ = false

abbrev pub is_field : Instr → Bool
is_field (Getstatic a) = true
is_field (Getfield a) = true
is_field (Putfield a) = true
is_field _ = false
