-- An instruction that has a kind is known by its kind and its operands.
use Rattle.std.proofs.Common.{◌≡◌, ℕ, ℤ, ◌+◌, refl, ◌∙◌, Option, Some, None, List, [], ◌∷◌, get_or}
use Rattle.kilim_program.specs.declared.ty.Ty.{Ty}
use Rattle.kilim_program.specs.declared.names.FieldId.{FieldId}
use Rattle.kilim_program.specs.declared.ty.Base.TheVariants as base
use Rattle.kilim_program.specs.declared.instr.Instr.{Instr}
use Rattle.kilim_program.specs.declared.instr.Instr.TheVariants.{Nop, AconstNull, Iaload, Laload, Aaload, Baload, Caload, Saload, Iastore, Lastore, Aastore, Bastore, Castore, Sastore, Arraylength, Ireturn, Lreturn, Areturn, Return, Athrow, Pop, Pop2, Dup, DupX1, DupX2, Dup2, Dup2X1, Dup2X2, Swap, Iadd, Ladd, Isub, Lsub, Imul, Lmul, Idiv, Ldiv, Irem, Lrem, Ineg, Lneg, Ishl, Lshl, Ishr, Lshr, Iushr, Lushr, Iand, Land, Ior, Lor, Ixor, Lxor, I2l, L2i, I2b, I2c, I2s, Lcmp, Iconst, Lconst, Bipush, Sipush, Iload, Lload, Aload, Istore, Lstore, Astore, Iinc, Ifeq, Ifne, Iflt, Ifge, Ifgt, Ifle, Goto, Ifnull, Ifnonnull, GotoW, IfIcmpeq, IfIcmpne, IfIcmplt, IfIcmpge, IfIcmpgt, IfIcmple, IfAcmpeq, IfAcmpne, Getstatic, Getfield, Putfield, Invokevirtual, Invokespecial, Invokestatic, New, Newarray, Anewarray, Checkcast, Instanceof, Ldc, LdcW, Ldc2W, Tableswitch, Lookupswitch}
use Rattle.kilim_program.specs.BuiltIn.{class_id, method_id, plain_type}
use Rattle.kilim_weave_file_sizes.specs.same_programs.Kinds.{kind, sum_kind, local_kind, jump_kind, named_kind, place_of, slot_of, number_of, name_of, type_of}

abbrev field_id : ℕ → FieldId
field_id n = record { 0 = n }

abbrev type_or : Option Ty → Ty
type_or None = plain_type base.Bool
type_or (Some ty) = ty

-- the instruction of a kind with its operands
rebuilt : ℕ → ℕ → ℕ → ℤ → ℕ → Option Ty → Instr
rebuilt kind place slot number name ty = get_or (Nop
    ∷ Nop ∷ AconstNull ∷ Iaload ∷ Laload ∷ Aaload ∷ Baload ∷ Caload ∷ Saload ∷ Iastore ∷ Lastore ∷ Aastore ∷ Bastore ∷ Castore ∷ Sastore
    ∷ Arraylength ∷ Ireturn ∷ Lreturn ∷ Areturn ∷ Return ∷ Athrow ∷ Pop ∷ Pop2 ∷ Dup ∷ DupX1 ∷ DupX2 ∷ Dup2 ∷ Dup2X1 ∷ Dup2X2 ∷ Swap ∷ Iadd ∷ Ladd
    ∷ Isub ∷ Lsub ∷ Imul ∷ Lmul ∷ Idiv ∷ Ldiv ∷ Irem ∷ Lrem ∷ Ineg ∷ Lneg ∷ Ishl ∷ Lshl ∷ Ishr ∷ Lshr ∷ Iushr ∷ Lushr ∷ Iand ∷ Land ∷ Ior ∷ Lor
    ∷ Ixor ∷ Lxor ∷ I2l ∷ L2i ∷ I2b ∷ I2c ∷ I2s ∷ Lcmp ∷ Iconst number ∷ Lconst number ∷ Bipush number ∷ Sipush number ∷ Iload slot ∷ Lload slot
    ∷ Aload slot ∷ Istore slot ∷ Lstore slot ∷ Astore slot ∷ Iinc slot number ∷ Ifeq place ∷ Ifne place ∷ Iflt place ∷ Ifge place ∷ Ifgt place
    ∷ Ifle place ∷ Goto place ∷ Ifnull place ∷ Ifnonnull place ∷ GotoW place ∷ IfIcmpeq place ∷ IfIcmpne place ∷ IfIcmplt place ∷ IfIcmpge place
    ∷ IfIcmpgt place ∷ IfIcmple place ∷ IfAcmpeq place ∷ IfAcmpne place ∷ Getstatic (field_id name) ∷ Getfield (field_id name)
    ∷ Putfield (field_id name) ∷ Invokevirtual (method_id name) ∷ Invokespecial (method_id name) ∷ Invokestatic (method_id name)
    ∷ New (class_id name) ∷ Newarray (type_or ty).base ∷ Anewarray (type_or ty) ∷ Checkcast (type_or ty) ∷ Instanceof (type_or ty) ∷ []) kind Nop

rebuilt_is : (i : Instr) → (kind i ≡ 0 → ⊥) → rebuilt (kind i) (place_of i) (slot_of i) (number_of i) (name_of i) (type_of i) ≡ i
unfolding rebuilt kind sum_kind local_kind jump_kind named_kind place_of slot_of number_of name_of type_of
rebuilt_is Nop has = refl
rebuilt_is AconstNull has = refl
rebuilt_is Iaload has = refl
rebuilt_is Laload has = refl
rebuilt_is Aaload has = refl
rebuilt_is Baload has = refl
rebuilt_is Caload has = refl
rebuilt_is Saload has = refl
rebuilt_is Iastore has = refl
rebuilt_is Lastore has = refl
rebuilt_is Aastore has = refl
rebuilt_is Bastore has = refl
rebuilt_is Castore has = refl
rebuilt_is Sastore has = refl
rebuilt_is Arraylength has = refl
rebuilt_is Ireturn has = refl
rebuilt_is Lreturn has = refl
rebuilt_is Areturn has = refl
rebuilt_is Return has = refl
rebuilt_is Athrow has = refl
rebuilt_is Pop has = refl
rebuilt_is Pop2 has = refl
rebuilt_is Dup has = refl
rebuilt_is DupX1 has = refl
rebuilt_is DupX2 has = refl
rebuilt_is Dup2 has = refl
rebuilt_is Dup2X1 has = refl
rebuilt_is Dup2X2 has = refl
rebuilt_is Swap has = refl
rebuilt_is Iadd has = refl
rebuilt_is Ladd has = refl
rebuilt_is Isub has = refl
rebuilt_is Lsub has = refl
rebuilt_is Imul has = refl
rebuilt_is Lmul has = refl
rebuilt_is Idiv has = refl
rebuilt_is Ldiv has = refl
rebuilt_is Irem has = refl
rebuilt_is Lrem has = refl
rebuilt_is Ineg has = refl
rebuilt_is Lneg has = refl
rebuilt_is Ishl has = refl
rebuilt_is Lshl has = refl
rebuilt_is Ishr has = refl
rebuilt_is Lshr has = refl
rebuilt_is Iushr has = refl
rebuilt_is Lushr has = refl
rebuilt_is Iand has = refl
rebuilt_is Land has = refl
rebuilt_is Ior has = refl
rebuilt_is Lor has = refl
rebuilt_is Ixor has = refl
rebuilt_is Lxor has = refl
rebuilt_is I2l has = refl
rebuilt_is L2i has = refl
rebuilt_is I2b has = refl
rebuilt_is I2c has = refl
rebuilt_is I2s has = refl
rebuilt_is Lcmp has = refl
rebuilt_is (Iconst x) has = refl
rebuilt_is (Lconst x) has = refl
rebuilt_is (Bipush x) has = refl
rebuilt_is (Sipush x) has = refl
rebuilt_is (Iload x) has = refl
rebuilt_is (Lload x) has = refl
rebuilt_is (Aload x) has = refl
rebuilt_is (Istore x) has = refl
rebuilt_is (Lstore x) has = refl
rebuilt_is (Astore x) has = refl
rebuilt_is (Iinc x y) has = refl
rebuilt_is (Ifeq x) has = refl
rebuilt_is (Ifne x) has = refl
rebuilt_is (Iflt x) has = refl
rebuilt_is (Ifge x) has = refl
rebuilt_is (Ifgt x) has = refl
rebuilt_is (Ifle x) has = refl
rebuilt_is (Goto x) has = refl
rebuilt_is (Ifnull x) has = refl
rebuilt_is (Ifnonnull x) has = refl
rebuilt_is (GotoW x) has = refl
rebuilt_is (IfIcmpeq x) has = refl
rebuilt_is (IfIcmpne x) has = refl
rebuilt_is (IfIcmplt x) has = refl
rebuilt_is (IfIcmpge x) has = refl
rebuilt_is (IfIcmpgt x) has = refl
rebuilt_is (IfIcmple x) has = refl
rebuilt_is (IfAcmpeq x) has = refl
rebuilt_is (IfAcmpne x) has = refl
rebuilt_is (Getstatic x) has = refl
rebuilt_is (Getfield x) has = refl
rebuilt_is (Putfield x) has = refl
rebuilt_is (Invokevirtual x) has = refl
rebuilt_is (Invokespecial x) has = refl
rebuilt_is (Invokestatic x) has = refl
rebuilt_is (New x) has = refl
rebuilt_is (Newarray x) has = refl
rebuilt_is (Anewarray x) has = refl
rebuilt_is (Checkcast x) has = refl
rebuilt_is (Instanceof x) has = refl
rebuilt_is (Ldc x) has = absurd (has refl)
rebuilt_is (LdcW x) has = absurd (has refl)
rebuilt_is (Ldc2W x) has = absurd (has refl)
rebuilt_is (Tableswitch x y z) has = absurd (has refl)
rebuilt_is (Lookupswitch x y) has = absurd (has refl)

pub same_by_kind : (i j : Instr) → (kind i ≡ 0 → ⊥) → kind i ≡ kind j → place_of i ≡ place_of j → slot_of i ≡ slot_of j → number_of i ≡ number_of j → name_of i ≡ name_of j → type_of i ≡ type_of j → i ≡ j
same_by_kind i j has kinds places slots numbers names types =
    let there = rebuilt_is i has in
    let here = rebuilt_is j (λ none. has (kinds ∙ none)) in
    cc
