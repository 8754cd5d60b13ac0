-- All rows, as one table.
use Rattle.std.proofs.Common.{◌≡◌, ℕ, cond, List, [], ◌∷◌, Option, Some, None, sym, ap, ◌∙◌, inl, inr}
use Rattle.kilim_program.specs.declared.instr.Instr.TheVariants as instr
use Rattle.kilim_program.specs.declared.instr.Instr.{Instr}
use Rattle.kilim_program.specs.Lengths.{fetched}
use Rattle.kilim_run_machine.specs.Does.{does}
use Rattle.kilim_type_spec.specs.Step.{made_at, made_by}
use Rattle.kilim_isolation_laws.proofs.forest.Store.{both_ways}
use Rattle.kilim_isolation_laws.specs.graph_rows.Facts.{RowsHold}
use Rattle.kilim_isolation_laws.proofs.graph_rows.Arrays.{aastore_h}
use Rattle.kilim_isolation_laws.proofs.graph_rows.Casting.{checkcast_h}
use Rattle.kilim_isolation_laws.proofs.graph_rows.Elements.{aaload_h}
use Rattle.kilim_isolation_laws.proofs.graph_rows.InvokeRows.{invokespecial_h, invokestatic_h, invokevirtual_h}
use Rattle.kilim_isolation_laws.proofs.graph_rows.Leaving.{areturn_h, ireturn_h, lreturn_h, return_h}
use Rattle.kilim_isolation_laws.proofs.graph_rows.Locals.{aload_h, astore_h, iload_h, istore_h, lload_h, lstore_h}
use Rattle.kilim_isolation_laws.proofs.graph_rows.Making.{new_h}
use Rattle.kilim_isolation_laws.proofs.graph_rows.NewArrays.{anewarray_h, newarray_h}
use Rattle.kilim_isolation_laws.proofs.graph_rows.NumberArrays.{bastore_h, castore_h, iastore_h, iinc_h, lastore_h, sastore_h}
use Rattle.kilim_isolation_laws.proofs.graph_rows.Plain.{arraylength_h, athrow_h, bipush_h, goto_h, i2b_h, i2l_h, iadd_h, iaload_h, iand_h, iconst_h, idiv_h, if_acmpeq_h, if_acmpne_h, if_icmpeq_h, if_icmplt_h, ifeq_h, iflt_h, ifnonnull_h, ifnull_h, imul_h, ineg_h, instanceof_h, irem_h, ishl_h, isub_h, l2i_h, ladd_h, lcmp_h, lconst_h, ldiv_h, nop_h, null_h, sipush_h, tableswitch_h}
use Rattle.kilim_isolation_laws.proofs.graph_rows.PlainMore.{baload_h, caload_h, getstatic_h, goto_w_h, i2c_h, i2s_h, if_icmpge_h, if_icmpgt_h, if_icmple_h, if_icmpne_h, ifge_h, ifgt_h, ifle_h, ifne_h, ior_h, ishr_h, iushr_h, ixor_h, laload_h, land_h, ldc2_w_h, ldc_h, ldc_w_h, lmul_h, lneg_h, lookupswitch_h, lor_h, lrem_h, lshl_h, lshr_h, lsub_h, lushr_h, lxor_h, saload_h}
use Rattle.kilim_isolation_laws.proofs.graph_rows.Putting.{putfield_h}
use Rattle.kilim_isolation_laws.proofs.graph_rows.Reading.{getfield_h}
use Rattle.kilim_isolation_laws.proofs.graph_rows.Shuffling.{dup_h, pop_h}
use Rattle.kilim_isolation_laws.proofs.graph_rows.TakeElement.{take_h}
use Rattle.kilim_isolation_laws.proofs.graph_rows.Words2.{dup2_h, dup2_x1_h, dup2_x2_h, dup_x1_h, dup_x2_h, pop2_h, swap_h}

made_here : (code : List (ℕ × Instr)) (end pl to : ℕ) (i : Instr) → fetched code end pl ≡ Some (i, to) → made_at code pl ≡ made_by i
made_here [] end pl to i e = absurd (cc)
made_here (x ∷ code) end pl to i e = elim (both_ways (Rattle.std.specs.Prelude.◌==◌ x.0 pl)) [
  | inl it ↦ ap (λ b. cond b (made_by x.1) (made_at code pl)) it ∙ ap made_by (first_is x.1 (ap (λ b. cond b (Some (x.1, Rattle.kilim_program.specs.Lengths.first_place code end)) (fetched code end pl)) (sym it) ∙ e))
  | inr other ↦ ap (λ b. cond b (made_by x.1) (made_at code pl)) other ∙ made_here code end pl to i (ap (λ b. cond b (Some (x.1, Rattle.kilim_program.specs.Lengths.first_place code end)) (fetched code end pl)) (sym other) ∙ e)
]
  where
    instr_or : Option (Instr × ℕ) → Instr → Instr
    instr_or None d = d
    instr_or (Some y) d = y.0

    first_is : (j : Instr) → ◌≡◌ {A = Option (Instr × ℕ)} (Some (j, Rattle.kilim_program.specs.Lengths.first_place code end)) (Some (i, to)) → j ≡ i
    first_is j w = ap (λ z. instr_or z j) w

pub rows_hold : RowsHold
unfolding does
rows_hold p k m pl to f f1 g g1 at h ls st below after instr.Nop hd v typed moved here = nop_h p m pl to f f1 g g1 at h ls st below after (hd, typed, moved)
rows_hold p k m pl to f f1 g g1 at h ls st below after instr.AconstNull hd v typed moved here = null_h p m pl to f f1 g g1 at h ls st below after (hd, typed, moved)
rows_hold p k m pl to f f1 g g1 at h ls st below after (instr.Iconst x) hd v typed moved here = iconst_h p m pl to f f1 g g1 at h ls st below after x (hd, typed, moved)
rows_hold p k m pl to f f1 g g1 at h ls st below after (instr.Lconst x) hd v typed moved here = lconst_h p m pl to f f1 g g1 at h ls st below after x (hd, typed, moved)
rows_hold p k m pl to f f1 g g1 at h ls st below after (instr.Bipush x) hd v typed moved here = bipush_h p m pl to f f1 g g1 at h ls st below after x (hd, typed, moved)
rows_hold p k m pl to f f1 g g1 at h ls st below after (instr.Sipush x) hd v typed moved here = sipush_h p m pl to f f1 g g1 at h ls st below after x (hd, typed, moved)
rows_hold p k m pl to f f1 g g1 at h ls st below after (instr.Ldc x) hd v typed moved here = ldc_h p k.constants k.text m pl to f f1 g g1 at h ls st below after x (hd, typed, moved)
rows_hold p k m pl to f f1 g g1 at h ls st below after (instr.LdcW x) hd v typed moved here = ldc_w_h p k.constants k.text m pl to f f1 g g1 at h ls st below after x (hd, typed, moved)
rows_hold p k m pl to f f1 g g1 at h ls st below after (instr.Ldc2W x) hd v typed moved here = ldc2_w_h p k.constants k.text m pl to f f1 g g1 at h ls st below after x (hd, typed, moved)
rows_hold p k m pl to f f1 g g1 at h ls st below after (instr.Iload x) hd v typed moved here = iload_h p m pl to f f1 g g1 at h ls st below after x (hd, typed, moved)
rows_hold p k m pl to f f1 g g1 at h ls st below after (instr.Lload x) hd v typed moved here = lload_h p m pl to f f1 g g1 at h ls st below after x (hd, typed, moved)
rows_hold p k m pl to f f1 g g1 at h ls st below after (instr.Aload x) hd v typed moved here = aload_h p m pl to f f1 g g1 at h ls st below after x (hd, typed, moved)
rows_hold p k m pl to f f1 g g1 at h ls st below after instr.Iaload hd v typed moved here = iaload_h p m pl to f f1 g g1 at h ls st below after (hd, typed, moved)
rows_hold p k m pl to f f1 g g1 at h ls st below after instr.Laload hd v typed moved here = laload_h p k.constants k.text m pl to f f1 g g1 at h ls st below after (hd, typed, moved)
rows_hold p k m pl to f f1 g g1 at h ls st below after instr.Aaload hd v typed moved here = aaload_h p m pl to f f1 g g1 at h ls st below after (hd, typed, moved)
rows_hold p k m pl to f f1 g g1 at h ls st below after instr.Baload hd v typed moved here = baload_h p k.constants k.text m pl to f f1 g g1 at h ls st below after (hd, typed, moved)
rows_hold p k m pl to f f1 g g1 at h ls st below after instr.Caload hd v typed moved here = caload_h p k.constants k.text m pl to f f1 g g1 at h ls st below after (hd, typed, moved)
rows_hold p k m pl to f f1 g g1 at h ls st below after instr.Saload hd v typed moved here = saload_h p k.constants k.text m pl to f f1 g g1 at h ls st below after (hd, typed, moved)
rows_hold p k m pl to f f1 g g1 at h ls st below after (instr.Istore x) hd v typed moved here = istore_h p m pl to f f1 g g1 at h ls st below after x (hd, typed, moved)
rows_hold p k m pl to f f1 g g1 at h ls st below after (instr.Lstore x) hd v typed moved here = lstore_h p m pl to f f1 g g1 at h ls st below after x (hd, typed, moved)
rows_hold p k m pl to f f1 g g1 at h ls st below after (instr.Astore x) hd v typed moved here = astore_h p m pl to f f1 g g1 at h ls st below after x (hd, typed, moved)
rows_hold p k m pl to f f1 g g1 at h ls st below after instr.Iastore hd v typed moved here = iastore_h p m pl to f f1 g g1 at h ls st below after (hd, typed, moved)
rows_hold p k m pl to f f1 g g1 at h ls st below after instr.Lastore hd v typed moved here = lastore_h p m pl to f f1 g g1 at h ls st below after (hd, typed, moved)
rows_hold p k m pl to f f1 g g1 at h ls st below after instr.Aastore hd v typed moved here = aastore_h p k.flow m pl to f f1 g g1 at h ls st below after (hd, typed, moved)
rows_hold p k m pl to f f1 g g1 at h ls st below after instr.Bastore hd v typed moved here = bastore_h p m pl to f f1 g g1 at h ls st below after (hd, typed, moved)
rows_hold p k m pl to f f1 g g1 at h ls st below after instr.Castore hd v typed moved here = castore_h p m pl to f f1 g g1 at h ls st below after (hd, typed, moved)
rows_hold p k m pl to f f1 g g1 at h ls st below after instr.Sastore hd v typed moved here = sastore_h p m pl to f f1 g g1 at h ls st below after (hd, typed, moved)
rows_hold p k m pl to f f1 g g1 at h ls st below after instr.Pop hd v typed moved here = pop_h p m pl to f f1 g g1 at h ls st below after (hd, typed, moved)
rows_hold p k m pl to f f1 g g1 at h ls st below after instr.Pop2 hd v typed moved here = pop2_h p m pl to f f1 g g1 at h ls st below after v.words (hd, typed, moved)
rows_hold p k m pl to f f1 g g1 at h ls st below after instr.Dup hd v typed moved here = dup_h p m pl to f f1 g g1 at h ls st below after (hd, typed, moved)
rows_hold p k m pl to f f1 g g1 at h ls st below after instr.DupX1 hd v typed moved here = dup_x1_h p m pl to f f1 g g1 at h ls st below after v.words (hd, typed, moved)
rows_hold p k m pl to f f1 g g1 at h ls st below after instr.DupX2 hd v typed moved here = dup_x2_h p m pl to f f1 g g1 at h ls st below after v.words (hd, typed, moved)
rows_hold p k m pl to f f1 g g1 at h ls st below after instr.Dup2 hd v typed moved here = dup2_h p m pl to f f1 g g1 at h ls st below after v.words (hd, typed, moved)
rows_hold p k m pl to f f1 g g1 at h ls st below after instr.Dup2X1 hd v typed moved here = dup2_x1_h p m pl to f f1 g g1 at h ls st below after v.words (hd, typed, moved)
rows_hold p k m pl to f f1 g g1 at h ls st below after instr.Dup2X2 hd v typed moved here = dup2_x2_h p m pl to f f1 g g1 at h ls st below after v.words (hd, typed, moved)
rows_hold p k m pl to f f1 g g1 at h ls st below after instr.Swap hd v typed moved here = swap_h p m pl to f f1 g g1 at h ls st below after v.words (hd, typed, moved)
rows_hold p k m pl to f f1 g g1 at h ls st below after instr.Iadd hd v typed moved here = iadd_h p m pl to f f1 g g1 at h ls st below after (hd, typed, moved)
rows_hold p k m pl to f f1 g g1 at h ls st below after instr.Ladd hd v typed moved here = ladd_h p m pl to f f1 g g1 at h ls st below after (hd, typed, moved)
rows_hold p k m pl to f f1 g g1 at h ls st below after instr.Isub hd v typed moved here = isub_h p m pl to f f1 g g1 at h ls st below after (hd, typed, moved)
rows_hold p k m pl to f f1 g g1 at h ls st below after instr.Lsub hd v typed moved here = lsub_h p k.constants k.text m pl to f f1 g g1 at h ls st below after (hd, typed, moved)
rows_hold p k m pl to f f1 g g1 at h ls st below after instr.Imul hd v typed moved here = imul_h p m pl to f f1 g g1 at h ls st below after (hd, typed, moved)
rows_hold p k m pl to f f1 g g1 at h ls st below after instr.Lmul hd v typed moved here = lmul_h p k.constants k.text m pl to f f1 g g1 at h ls st below after (hd, typed, moved)
rows_hold p k m pl to f f1 g g1 at h ls st below after instr.Idiv hd v typed moved here = idiv_h p m pl to f f1 g g1 at h ls st below after (hd, typed, moved)
rows_hold p k m pl to f f1 g g1 at h ls st below after instr.Ldiv hd v typed moved here = ldiv_h p m pl to f f1 g g1 at h ls st below after (hd, typed, moved)
rows_hold p k m pl to f f1 g g1 at h ls st below after instr.Irem hd v typed moved here = irem_h p m pl to f f1 g g1 at h ls st below after (hd, typed, moved)
rows_hold p k m pl to f f1 g g1 at h ls st below after instr.Lrem hd v typed moved here = lrem_h p k.constants k.text m pl to f f1 g g1 at h ls st below after (hd, typed, moved)
rows_hold p k m pl to f f1 g g1 at h ls st below after instr.Ineg hd v typed moved here = ineg_h p m pl to f f1 g g1 at h ls st below after (hd, typed, moved)
rows_hold p k m pl to f f1 g g1 at h ls st below after instr.Lneg hd v typed moved here = lneg_h p k.constants k.text m pl to f f1 g g1 at h ls st below after (hd, typed, moved)
rows_hold p k m pl to f f1 g g1 at h ls st below after instr.Ishl hd v typed moved here = ishl_h p m pl to f f1 g g1 at h ls st below after (hd, typed, moved)
rows_hold p k m pl to f f1 g g1 at h ls st below after instr.Lshl hd v typed moved here = lshl_h p k.constants k.text m pl to f f1 g g1 at h ls st below after (hd, typed, moved)
rows_hold p k m pl to f f1 g g1 at h ls st below after instr.Ishr hd v typed moved here = ishr_h p k.constants k.text m pl to f f1 g g1 at h ls st below after (hd, typed, moved)
rows_hold p k m pl to f f1 g g1 at h ls st below after instr.Lshr hd v typed moved here = lshr_h p k.constants k.text m pl to f f1 g g1 at h ls st below after (hd, typed, moved)
rows_hold p k m pl to f f1 g g1 at h ls st below after instr.Iushr hd v typed moved here = iushr_h p k.constants k.text m pl to f f1 g g1 at h ls st below after (hd, typed, moved)
rows_hold p k m pl to f f1 g g1 at h ls st below after instr.Lushr hd v typed moved here = lushr_h p k.constants k.text m pl to f f1 g g1 at h ls st below after (hd, typed, moved)
rows_hold p k m pl to f f1 g g1 at h ls st below after instr.Iand hd v typed moved here = iand_h p m pl to f f1 g g1 at h ls st below after (hd, typed, moved)
rows_hold p k m pl to f f1 g g1 at h ls st below after instr.Land hd v typed moved here = land_h p k.constants k.text m pl to f f1 g g1 at h ls st below after (hd, typed, moved)
rows_hold p k m pl to f f1 g g1 at h ls st below after instr.Ior hd v typed moved here = ior_h p k.constants k.text m pl to f f1 g g1 at h ls st below after (hd, typed, moved)
rows_hold p k m pl to f f1 g g1 at h ls st below after instr.Lor hd v typed moved here = lor_h p k.constants k.text m pl to f f1 g g1 at h ls st below after (hd, typed, moved)
rows_hold p k m pl to f f1 g g1 at h ls st below after instr.Ixor hd v typed moved here = ixor_h p k.constants k.text m pl to f f1 g g1 at h ls st below after (hd, typed, moved)
rows_hold p k m pl to f f1 g g1 at h ls st below after instr.Lxor hd v typed moved here = lxor_h p k.constants k.text m pl to f f1 g g1 at h ls st below after (hd, typed, moved)
rows_hold p k m pl to f f1 g g1 at h ls st below after (instr.Iinc n by) hd v typed moved here = iinc_h p m pl to f f1 g g1 at h ls st below after n by (hd, typed, moved)
rows_hold p k m pl to f f1 g g1 at h ls st below after instr.I2l hd v typed moved here = i2l_h p m pl to f f1 g g1 at h ls st below after (hd, typed, moved)
rows_hold p k m pl to f f1 g g1 at h ls st below after instr.L2i hd v typed moved here = l2i_h p m pl to f f1 g g1 at h ls st below after (hd, typed, moved)
rows_hold p k m pl to f f1 g g1 at h ls st below after instr.I2b hd v typed moved here = i2b_h p m pl to f f1 g g1 at h ls st below after (hd, typed, moved)
rows_hold p k m pl to f f1 g g1 at h ls st below after instr.I2c hd v typed moved here = i2c_h p k.constants k.text m pl to f f1 g g1 at h ls st below after (hd, typed, moved)
rows_hold p k m pl to f f1 g g1 at h ls st below after instr.I2s hd v typed moved here = i2s_h p k.constants k.text m pl to f f1 g g1 at h ls st below after (hd, typed, moved)
rows_hold p k m pl to f f1 g g1 at h ls st below after instr.Lcmp hd v typed moved here = lcmp_h p m pl to f f1 g g1 at h ls st below after (hd, typed, moved)
rows_hold p k m pl to f f1 g g1 at h ls st below after (instr.Ifeq x) hd v typed moved here = ifeq_h p m pl to f f1 g g1 at h ls st below after x (hd, typed, moved)
rows_hold p k m pl to f f1 g g1 at h ls st below after (instr.Ifne x) hd v typed moved here = ifne_h p k.constants k.text m pl to f f1 g g1 at h ls st below after x (hd, typed, moved)
rows_hold p k m pl to f f1 g g1 at h ls st below after (instr.Iflt x) hd v typed moved here = iflt_h p m pl to f f1 g g1 at h ls st below after x (hd, typed, moved)
rows_hold p k m pl to f f1 g g1 at h ls st below after (instr.Ifge x) hd v typed moved here = ifge_h p k.constants k.text m pl to f f1 g g1 at h ls st below after x (hd, typed, moved)
rows_hold p k m pl to f f1 g g1 at h ls st below after (instr.Ifgt x) hd v typed moved here = ifgt_h p k.constants k.text m pl to f f1 g g1 at h ls st below after x (hd, typed, moved)
rows_hold p k m pl to f f1 g g1 at h ls st below after (instr.Ifle x) hd v typed moved here = ifle_h p k.constants k.text m pl to f f1 g g1 at h ls st below after x (hd, typed, moved)
rows_hold p k m pl to f f1 g g1 at h ls st below after (instr.IfIcmpeq x) hd v typed moved here = if_icmpeq_h p m pl to f f1 g g1 at h ls st below after x (hd, typed, moved)
rows_hold p k m pl to f f1 g g1 at h ls st below after (instr.IfIcmpne x) hd v typed moved here = if_icmpne_h p k.constants k.text m pl to f f1 g g1 at h ls st below after x (hd, typed, moved)
rows_hold p k m pl to f f1 g g1 at h ls st below after (instr.IfIcmplt x) hd v typed moved here = if_icmplt_h p m pl to f f1 g g1 at h ls st below after x (hd, typed, moved)
rows_hold p k m pl to f f1 g g1 at h ls st below after (instr.IfIcmpge x) hd v typed moved here = if_icmpge_h p k.constants k.text m pl to f f1 g g1 at h ls st below after x (hd, typed, moved)
rows_hold p k m pl to f f1 g g1 at h ls st below after (instr.IfIcmpgt x) hd v typed moved here = if_icmpgt_h p k.constants k.text m pl to f f1 g g1 at h ls st below after x (hd, typed, moved)
rows_hold p k m pl to f f1 g g1 at h ls st below after (instr.IfIcmple x) hd v typed moved here = if_icmple_h p k.constants k.text m pl to f f1 g g1 at h ls st below after x (hd, typed, moved)
rows_hold p k m pl to f f1 g g1 at h ls st below after (instr.IfAcmpeq x) hd v typed moved here = if_acmpeq_h p m pl to f f1 g g1 at h ls st below after x (hd, typed, moved)
rows_hold p k m pl to f f1 g g1 at h ls st below after (instr.IfAcmpne x) hd v typed moved here = if_acmpne_h p m pl to f f1 g g1 at h ls st below after x (hd, typed, moved)
rows_hold p k m pl to f f1 g g1 at h ls st below after (instr.Goto x) hd v typed moved here = goto_h p m pl to f f1 g g1 at h ls st below after x (hd, typed, moved)
rows_hold p k m pl to f f1 g g1 at h ls st below after (instr.Tableswitch d low ts) hd v typed moved here = tableswitch_h p m pl to f f1 g g1 at h ls st below after d low ts (hd, typed, moved)
rows_hold p k m pl to f f1 g g1 at h ls st below after (instr.Lookupswitch d es) hd v typed moved here = lookupswitch_h p k.constants k.text m pl to f f1 g g1 at h ls st below after d es (hd, typed, moved)
rows_hold p k m pl to f f1 g g1 at h ls st below after instr.Ireturn hd v typed moved here = ireturn_h p k.flow m pl to f f1 g g1 at h ls st below after (hd, typed, moved)
rows_hold p k m pl to f f1 g g1 at h ls st below after instr.Lreturn hd v typed moved here = lreturn_h p k.flow m pl to f f1 g g1 at h ls st below after (hd, typed, moved)
rows_hold p k m pl to f f1 g g1 at h ls st below after instr.Areturn hd v typed moved here = areturn_h p k.flow m pl to f f1 g g1 at h ls st below after (hd, typed, moved)
rows_hold p k m pl to f f1 g g1 at h ls st below after instr.Return hd v typed moved here = return_h p k.flow m pl to f f1 g g1 at h ls st below after (hd, typed, moved)
rows_hold p k m pl to f f1 g g1 at h ls st below after (instr.Getstatic x) hd v typed moved here = getstatic_h p k.constants k.text m pl to f f1 g g1 at h ls st below after x (hd, typed, moved)
rows_hold p k m pl to f f1 g g1 at h ls st below after (instr.Getfield x) hd v typed moved here = getfield_h p m pl to f f1 g g1 at h ls st below after x (hd, typed, moved)
rows_hold p k m pl to f f1 g g1 at h ls st below after (instr.Putfield x) hd v typed moved here = putfield_h p k.flow m pl to f f1 g g1 at h ls st below after x (hd, typed, moved)
rows_hold p k m pl to f f1 g g1 at h ls st below after (instr.Invokevirtual id) hd v typed moved here = invokevirtual_h p k m pl to f f1 g g1 at h ls st below after id (hd, typed, moved) v.classes
rows_hold p k m pl to f f1 g g1 at h ls st below after (instr.Invokespecial id) hd v typed moved here = invokespecial_h p k m pl to f f1 g g1 at h ls st below after id (hd, typed, moved)
rows_hold p k m pl to f f1 g g1 at h ls st below after (instr.Invokestatic id) hd v typed moved here = invokestatic_h p k m pl to f f1 g g1 at h ls st below after id (hd, typed, moved) (λ named is static other built. take_h p k m pl to f f1 g g1 at h ls st below after id (hd, typed, moved) named is static (k.takes id named is built static other))
rows_hold p k m pl to f f1 g g1 at h ls st below after (instr.New c) hd v typed moved here = new_h p m pl to f f1 g g1 at h ls st below after c (hd, typed, moved) (made_here m.code m.code_length pl to (instr.New c) here) k.may
rows_hold p k m pl to f f1 g g1 at h ls st below after (instr.Newarray b) hd v typed moved here = newarray_h p m pl to f f1 g g1 at h ls st below after b v.whole (hd, typed, moved)
rows_hold p k m pl to f f1 g g1 at h ls st below after (instr.Anewarray ty) hd v typed moved here = anewarray_h p m pl to f f1 g g1 at h ls st below after ty v.whole (hd, typed, moved)
rows_hold p k m pl to f f1 g g1 at h ls st below after instr.Arraylength hd v typed moved here = arraylength_h p m pl to f f1 g g1 at h ls st below after (hd, typed, moved)
rows_hold p k m pl to f f1 g g1 at h ls st below after (instr.Checkcast x) hd v typed moved here = checkcast_h p k.flow m pl to f f1 g g1 at h ls st below after x (hd, typed, moved)
rows_hold p k m pl to f f1 g g1 at h ls st below after (instr.Instanceof x) hd v typed moved here = instanceof_h p m pl to f f1 g g1 at h ls st below after x (hd, typed, moved)
rows_hold p k m pl to f f1 g g1 at h ls st below after (instr.Ifnull x) hd v typed moved here = ifnull_h p m pl to f f1 g g1 at h ls st below after x (hd, typed, moved)
rows_hold p k m pl to f f1 g g1 at h ls st below after (instr.Ifnonnull x) hd v typed moved here = ifnonnull_h p m pl to f f1 g g1 at h ls st below after x (hd, typed, moved)
rows_hold p k m pl to f f1 g g1 at h ls st below after (instr.GotoW x) hd v typed moved here = goto_w_h p k.constants k.text m pl to f f1 g g1 at h ls st below after x (hd, typed, moved)
rows_hold p k m pl to f f1 g g1 at h ls st below after instr.Athrow hd v typed moved here = athrow_h p m pl to f f1 g g1 at h ls st below after
