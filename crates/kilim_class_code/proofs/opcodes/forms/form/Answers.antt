use Rattle.std.proofs.Common.{◌∙◌, arith}
use Rattle.kilim_class_code.proofs.opcodes.Listed.{same_forms}
use Rattle.kilim_class_code.proofs.opcodes.forms.form.Goals as goal

pub returns : goal.returns
returns c = c.form_in.ensures ∙ same_forms c.args.op (omega arith)
