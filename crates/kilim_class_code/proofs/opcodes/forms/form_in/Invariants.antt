use Rattle.std.proofs.Common.{◌≡◌, drop}
use Rattle.kilim_class_code.specs.opcodes.Table.{form_in}
use Rattle.kilim_class_code.proofs.opcodes.forms.form_in.Given as goal

abbrev pub invariant-loop-row : goal.invariant-loop-row
invariant-loop-row l = form_in (drop l.row-index l.rows) l.op ≡ form_in l.rows l.op
