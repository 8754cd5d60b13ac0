use Rattle.std.proofs.Common.{◌≡◌, Option, Some, ap, ◌∙◌}
use Rattle.std.specs.Int.{w16}
use Rattle.kilim_class_code.specs.declared.opcodes.forms.OpForm.{OpForm}
use Rattle.kilim_class_code.specs.declared.opcodes.forms.OpForm.TheVariants as form
use Rattle.kilim_class_code.specs.declared.opcodes.instr.RawInstr.TheVariants.{WideLocal}
use Rattle.kilim_class_code.specs.opcodes.Reading.{unsigned_at, wide_operands_at}
use Rattle.kilim_class_code.proofs.opcodes.Boths.{made_one, made_fails}
use Rattle.kilim_class_code.proofs.opcodes.reading.wide_operands_at.Goals as goal

pub returns-in-Ok : goal.returns-in-Ok
unfolding wide_operands_at
returns-in-Ok c =
    let is : c.in-Some-Local.field-0 ≡ form.Local = rw c.in-Some-Local.is at c.in-Some-Local.field-0-is in
    ap (λ (layout : Option OpForm). wide_operands_at c.args.op layout c.args.bytes.now) (c.in-Some-Local.is ∙ ap (λ (f : OpForm). Some f) is)
    ∙ made_one (WideLocal c.args.op) (unsigned_at w16) c.args.bytes.now c.in-Ok.slot c.in-Ok.rest.now c.in-Ok.ensures

pub returns-in-Err : goal.returns-in-Err
unfolding wide_operands_at
returns-in-Err c =
    let is : c.in-Some-Local.field-0 ≡ form.Local = rw c.in-Some-Local.is at c.in-Some-Local.field-0-is in
    ap (λ (layout : Option OpForm). wide_operands_at c.args.op layout c.args.bytes.now) (c.in-Some-Local.is ∙ ap (λ (f : OpForm). Some f) is)
    ∙ made_fails (WideLocal c.args.op) (unsigned_at w16) c.args.bytes.now c.in-Err.fault c.in-Err.ensures
