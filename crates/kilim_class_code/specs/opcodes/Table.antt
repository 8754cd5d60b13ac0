-- The instructions of this project by their numbers (JVMS 6.5), with the layout of what stands behind the number.
use Rattle.std.specs.Prelude.{ℕ, ◌&&◌, nat_lt, nat_le, if◌then◌else◌, List, [], ◌∷◌, Option}
use Rattle.std.specs.List.{find}
use Rattle.std.specs.Option.{option_map}
use Rattle.kilim_class_code.specs.declared.opcodes.forms.OpForm.{OpForm}
use Rattle.kilim_class_code.specs.declared.opcodes.forms.OpForm.TheVariants.{Plain, Byte, Short, Local, Constant, Index, Iinc, Jump, WideJump, NewArray, TableSwitch, LookupSwitch, Wide}
use Rattle.kilim_class_code.specs.declared.opcodes.fault.OpFault.{OpFault}
use Rattle.kilim_class_code.specs.declared.opcodes.fault.OpFault.TheVariants.{LeftOut, Unknown}

-- the instructions from one number to another have one layout
abbrev pub Row : Type 0
Row = ℕ × ℕ × OpForm

unfoldable pub rows : List Row
rows =
    (0, 1, Plain)  -- nop, aconst_null
    ∷ (2, 8, Plain)  -- iconst_m1, iconst_0 to iconst_5
    ∷ (9, 10, Plain)  -- lconst_0, lconst_1
    ∷ (16, 16, Byte)  -- bipush
    ∷ (17, 17, Short)  -- sipush
    ∷ (18, 18, Constant)  -- ldc
    ∷ (19, 20, Index)  -- ldc_w, ldc2_w
    ∷ (21, 22, Local)  -- iload, lload
    ∷ (25, 25, Local)  -- aload
    ∷ (26, 29, Plain)  -- iload_0 to iload_3
    ∷ (30, 33, Plain)  -- lload_0 to lload_3
    ∷ (42, 45, Plain)  -- aload_0 to aload_3
    ∷ (46, 47, Plain)  -- iaload, laload
    ∷ (50, 53, Plain)  -- aaload, baload, caload, saload
    ∷ (54, 55, Local)  -- istore, lstore
    ∷ (58, 58, Local)  -- astore
    ∷ (59, 62, Plain)  -- istore_0 to istore_3
    ∷ (63, 66, Plain)  -- lstore_0 to lstore_3
    ∷ (75, 78, Plain)  -- astore_0 to astore_3
    ∷ (79, 80, Plain)  -- iastore, lastore
    ∷ (83, 86, Plain)  -- aastore, bastore, castore, sastore
    ∷ (87, 95, Plain)  -- pop, pop2, the dup forms, swap
    ∷ (96, 97, Plain)  -- iadd, ladd
    ∷ (100, 101, Plain)  -- isub, lsub
    ∷ (104, 105, Plain)  -- imul, lmul
    ∷ (108, 109, Plain)  -- idiv, ldiv
    ∷ (112, 113, Plain)  -- irem, lrem
    ∷ (116, 117, Plain)  -- ineg, lneg
    ∷ (120, 125, Plain)  -- ishl, lshl, ishr, lshr, iushr, lushr
    ∷ (126, 131, Plain)  -- iand, land, ior, lor, ixor, lxor
    ∷ (132, 132, Iinc)  -- iinc
    ∷ (133, 133, Plain)  -- i2l
    ∷ (136, 136, Plain)  -- l2i
    ∷ (145, 147, Plain)  -- i2b, i2c, i2s
    ∷ (148, 148, Plain)  -- lcmp
    ∷ (153, 158, Jump)  -- ifeq, ifne, iflt, ifge, ifgt, ifle
    ∷ (159, 164, Jump)  -- if_icmpeq, ne, lt, ge, gt, le
    ∷ (165, 166, Jump)  -- if_acmpeq, if_acmpne
    ∷ (167, 167, Jump)  -- goto
    ∷ (170, 170, TableSwitch)  -- tableswitch
    ∷ (171, 171, LookupSwitch)  -- lookupswitch
    ∷ (172, 173, Plain)  -- ireturn, lreturn
    ∷ (176, 177, Plain)  -- areturn, return
    ∷ (178, 178, Index)  -- getstatic
    ∷ (180, 181, Index)  -- getfield, putfield
    ∷ (182, 184, Index)  -- invokevirtual, invokespecial, invokestatic
    ∷ (187, 187, Index)  -- new
    ∷ (188, 188, NewArray)  -- newarray
    ∷ (189, 189, Index)  -- anewarray
    ∷ (190, 191, Plain)  -- arraylength, athrow
    ∷ (192, 193, Index)  -- checkcast, instanceof
    ∷ (196, 196, Wide)  -- wide
    ∷ (198, 199, Jump)  -- ifnull, ifnonnull
    ∷ (200, 200, WideJump)  -- goto_w
    ∷ []

abbrev pub form_in : List Row → ℕ → Option OpForm
form_in table op = option_map (λ row. row.2) (find (λ row. nat_le row.0 op && nat_le op row.1) table)

unfoldable pub form_of : ℕ → Option OpForm
form_of op = form_in rows op

-- The standard's instructions end at 201; those that aren't listed are left out.
abbrev pub unlisted : ℕ → OpFault
unlisted op = if nat_lt op 202 then LeftOut op else Unknown op
