use Rattle.std.proofs.Common.{◌∙◌, rules, subst, sym}
use Rattle.std.specs.Int.{w64}
use Rattle.std.specs.Prelude.{FitsSigned}
use Rattle.std.proofs.lemmas.Int.{to_z-of_z}
use Rattle.std.proofs.lemmas.Bool.{false≢true}
use Rattle.kilim_class_code.specs.opcodes.Instr.{InstrFits}
use Rattle.kilim_class_making.proofs.code_bytes.writing.fits.Goals as goal

pub returns-in-Plain : goal.returns-in-Plain
unfolding InstrFits
returns-in-Plain c = λ holds. subst (InstrFits c.args.at) (sym c.in-Plain.is) (c.has_form.ensures holds)

pub returns-in-Byte : goal.returns-in-Byte
unfolding InstrFits
returns-in-Byte c = λ holds. subst (InstrFits c.args.at) (sym c.in-Byte.is) (c.has_form-in-Byte.ensures holds, c.in_i8.ensures)

pub returns-in-Short : goal.returns-in-Short
unfolding InstrFits
returns-in-Short c = λ holds. subst (InstrFits c.args.at) (sym c.in-Short.is) (c.has_form-in-Short.ensures holds, c.in_i16.ensures)

pub returns-in-Local : goal.returns-in-Local
unfolding InstrFits
returns-in-Local c = λ holds. subst (InstrFits c.args.at) (sym c.in-Local.is) (c.has_form-in-Local.ensures holds, c.in_u8.ensures)

pub returns-in-Constant : goal.returns-in-Constant
unfolding InstrFits
returns-in-Constant c = λ holds. subst (InstrFits c.args.at) (sym c.in-Constant.is) (c.has_form-in-Constant.ensures holds, c.in_u8-in-Constant.ensures)

pub returns-in-Index : goal.returns-in-Index
unfolding InstrFits
returns-in-Index c = λ holds. subst (InstrFits c.args.at) (sym c.in-Index.is) (c.has_form-in-Index.ensures holds, c.in_u16.ensures)

pub returns-in-Iinc : goal.returns-in-Iinc
unfolding InstrFits
returns-in-Iinc c = λ holds. subst (InstrFits c.args.at) (sym c.in-Iinc.is) (c.has_form-in-Iinc.ensures holds, (c.in_u8-in-Iinc.ensures, c.in_i8-in-Iinc.ensures))

pub returns-in-WideLocal : goal.returns-in-WideLocal
unfolding InstrFits
returns-in-WideLocal c = λ holds. subst (InstrFits c.args.at) (sym c.in-WideLocal.is) (c.has_form-in-WideLocal.ensures holds, c.in_u16-in-WideLocal.ensures)

pub returns-in-WideIinc : goal.returns-in-WideIinc
unfolding InstrFits
returns-in-WideIinc c = λ holds. subst (InstrFits c.args.at) (sym c.in-WideIinc.is) (c.has_form-in-WideIinc.ensures holds, (c.in_u16-in-WideIinc.ensures, c.in_i16-in-WideIinc.ensures))

pub returns-else-has_form : goal.returns-else-has_form
returns-else-has_form c = λ holds. absurd (false≢true (sym c.if-has_form.false ∙ holds))

pub returns-else-has_form-2 : goal.returns-else-has_form-2
returns-else-has_form-2 c = λ holds. absurd (false≢true (sym c.if-has_form-2.false ∙ holds))

pub returns-else-has_form-3 : goal.returns-else-has_form-3
returns-else-has_form-3 c = λ holds. absurd (false≢true (sym c.if-has_form-3.false ∙ holds))

pub returns-else-has_form-4 : goal.returns-else-has_form-4
returns-else-has_form-4 c = λ holds. absurd (false≢true (sym c.if-has_form-4.false ∙ holds))

pub returns-else-has_form-5 : goal.returns-else-has_form-5
returns-else-has_form-5 c = λ holds. absurd (false≢true (sym c.if-has_form-5.false ∙ holds))

pub returns-then-has_form : goal.returns-then-has_form
unfolding InstrFits
returns-then-has_form c =
    let to : FitsSigned w64 c.in-Jump.to = search rules in
    λ holds. subst (InstrFits c.args.at) (sym c.in-Jump.is) (c.has_form-in-Jump.ensures c.if-has_form.true, simp to_z-of_z at (c.is_near.ensures holds))

pub returns-then-has_form-2 : goal.returns-then-has_form-2
unfolding InstrFits
returns-then-has_form-2 c =
    let to : FitsSigned w64 c.in-WideJump.to = search rules in
    λ holds. subst (InstrFits c.args.at) (sym c.in-WideJump.is) (c.has_form-in-WideJump.ensures c.if-has_form-2.true, simp to_z-of_z at (c.is_far.ensures holds))

pub returns-then-has_form-3 : goal.returns-then-has_form-3
unfolding InstrFits
returns-then-has_form-3 c = λ holds. subst (InstrFits c.args.at) (sym c.in-NewArray.is) (c.has_form-in-NewArray.ensures c.if-has_form-3.true, sym c.is_array_code.ensures ∙ holds)
