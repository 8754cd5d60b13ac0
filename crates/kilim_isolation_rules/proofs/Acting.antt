-- What the table of steps says of an instruction, by what it does.
use Rattle.std.proofs.Common.{◌≡◌, refl, ap}
use Rattle.kilim_program.specs.declared.class.Method.{Method}
use Rattle.kilim_program.specs.declared.instr.Instr.{Instr}
use Rattle.kilim_program.specs.declared.instr.Instr.TheVariants.{Nop, Iinc, Goto, GotoW, AconstNull, Iconst, Lconst, Bipush, Sipush, Iload, Lload, Ldc, LdcW, Ldc2W, Ineg, Lneg, I2l, L2i, I2b, I2c, I2s, Arraylength, Instanceof, Ifeq, Ifne, Iflt, Ifge, Ifgt, Ifle, Ifnull, Ifnonnull, Tableswitch, Lookupswitch, Iadd, Ladd, Isub, Lsub, Imul, Lmul, Idiv, Ldiv, Irem, Lrem, Ishl, Lshl, Ishr, Lshr, Iushr, Lushr, Iand, Land, Ior, Lor, Ixor, Lxor, Lcmp, Iaload, Laload, Baload, Caload, Saload, IfIcmpeq, IfIcmpne, IfIcmplt, IfIcmpge, IfIcmpgt, IfIcmple, IfAcmpeq, IfAcmpne, Iastore, Lastore, Bastore, Castore, Sastore, Aload, Astore, Istore, Lstore, Pop, Pop2, Dup, DupX1, DupX2, Dup2, Dup2X1, Dup2X2, Swap, New, Newarray, Anewarray, Getstatic, Getfield, Putfield, Aaload, Aastore, Invokevirtual, Invokespecial, Invokestatic, Areturn, Ireturn, Lreturn, Return, Checkcast, Athrow}
use Rattle.kilim_program.specs.Program.{Program}
use Rattle.kilim_type_spec.specs.Step.{Types, row}
use Rattle.kilim_isolation_graph.specs.declared.graph.Graph.{Graph}
use Rattle.kilim_isolation_rules.specs.Actions.{action, deed_by, passing_action, word_action}
use Rattle.kilim_isolation_rules.specs.Marks.{plain}
use Rattle.kilim_isolation_rules.specs.Rules.{deed}
use Rattle.kilim_isolation_rules.proofs.Constants.{constant_passes, long_constant_passes}

pub acts : (p : Program) (m : Method) (g : Graph) (f : Types) (i : Instr) → deed p m g f i ≡ deed_by p m g f (action i)
unfolding deed row action word_action passing_action
acts p m g f Nop = refl
acts p m g f (Iinc a b) = refl
acts p m g f (Goto a) = refl
acts p m g f (GotoW a) = refl
acts p m g f AconstNull = refl
acts p m g f (Iconst a) = refl
acts p m g f (Lconst a) = refl
acts p m g f (Bipush a) = refl
acts p m g f (Sipush a) = refl
acts p m g f (Iload a) = refl
acts p m g f (Lload a) = refl
acts p m g f (Ldc a) = ap plain (constant_passes p a g f)
acts p m g f (LdcW a) = ap plain (constant_passes p a g f)
acts p m g f (Ldc2W a) = ap plain (long_constant_passes a g f)
acts p m g f Ineg = refl
acts p m g f Lneg = refl
acts p m g f I2l = refl
acts p m g f L2i = refl
acts p m g f I2b = refl
acts p m g f I2c = refl
acts p m g f I2s = refl
acts p m g f Arraylength = refl
acts p m g f (Instanceof a) = refl
acts p m g f (Ifeq a) = refl
acts p m g f (Ifne a) = refl
acts p m g f (Iflt a) = refl
acts p m g f (Ifge a) = refl
acts p m g f (Ifgt a) = refl
acts p m g f (Ifle a) = refl
acts p m g f (Ifnull a) = refl
acts p m g f (Ifnonnull a) = refl
acts p m g f (Tableswitch a b c) = refl
acts p m g f (Lookupswitch a b) = refl
acts p m g f Iadd = refl
acts p m g f Ladd = refl
acts p m g f Isub = refl
acts p m g f Lsub = refl
acts p m g f Imul = refl
acts p m g f Lmul = refl
acts p m g f Idiv = refl
acts p m g f Ldiv = refl
acts p m g f Irem = refl
acts p m g f Lrem = refl
acts p m g f Ishl = refl
acts p m g f Lshl = refl
acts p m g f Ishr = refl
acts p m g f Lshr = refl
acts p m g f Iushr = refl
acts p m g f Lushr = refl
acts p m g f Iand = refl
acts p m g f Land = refl
acts p m g f Ior = refl
acts p m g f Lor = refl
acts p m g f Ixor = refl
acts p m g f Lxor = refl
acts p m g f Lcmp = refl
acts p m g f Iaload = refl
acts p m g f Laload = refl
acts p m g f Baload = refl
acts p m g f Caload = refl
acts p m g f Saload = refl
acts p m g f (IfIcmpeq a) = refl
acts p m g f (IfIcmpne a) = refl
acts p m g f (IfIcmplt a) = refl
acts p m g f (IfIcmpge a) = refl
acts p m g f (IfIcmpgt a) = refl
acts p m g f (IfIcmple a) = refl
acts p m g f (IfAcmpeq a) = refl
acts p m g f (IfAcmpne a) = refl
acts p m g f Iastore = refl
acts p m g f Lastore = refl
acts p m g f Bastore = refl
acts p m g f Castore = refl
acts p m g f Sastore = refl
acts p m g f (Aload a) = refl
acts p m g f (Astore a) = refl
acts p m g f (Istore a) = refl
acts p m g f (Lstore a) = refl
acts p m g f Pop = refl
acts p m g f Pop2 = refl
acts p m g f Dup = refl
acts p m g f DupX1 = refl
acts p m g f DupX2 = refl
acts p m g f Dup2 = refl
acts p m g f Dup2X1 = refl
acts p m g f Dup2X2 = refl
acts p m g f Swap = refl
acts p m g f (New a) = refl
acts p m g f (Newarray a) = refl
acts p m g f (Anewarray a) = refl
acts p m g f (Getstatic a) = refl
acts p m g f (Getfield a) = refl
acts p m g f (Putfield a) = refl
acts p m g f Aaload = refl
acts p m g f Aastore = refl
acts p m g f (Invokevirtual a) = refl
acts p m g f (Invokespecial a) = refl
acts p m g f (Invokestatic a) = refl
acts p m g f Areturn = refl
acts p m g f Ireturn = refl
acts p m g f Lreturn = refl
acts p m g f Return = refl
acts p m g f (Checkcast a) = refl
acts p m g f Athrow = refl
