use Rattle.std.proofs.Common.{Ok, inr, sym, ap, ◌∙◌}
use Rattle.kilim_class_attributes.specs.declared.parts.fault.AttributeFault.TheVariants as fault
use Rattle.kilim_class_attributes.specs.parts.Annotations.{parts_at}
use Rattle.kilim_class_attributes.specs.declared.attribute.Info.{Info}
use Rattle.kilim_class_attributes.specs.Attributes.{whole_parts}
use Rattle.kilim_class_attributes.specs.Wrapped.{parts_as}
use Rattle.kilim_class_attributes.proofs.Filled.{fills, overflows}
use Rattle.kilim_class_attributes.proofs.info_reading.parts_info.Goals as goal

pub returns-then-is_empty : goal.returns-then-is_empty
unfolding whole_parts
returns-then-is_empty c = fills (parts_as c.args.form) (fault.Length c.args.form) (parts_at c.args.pool.now (fault.Length c.args.form) c.args.kind) c.args.bytes.now c.in-Ok.parts c.in-Ok.rest.now c.in-Ok.ensures c.is_empty.result c.is_empty.ensures c.if-is_empty.true ∙ ap (λ (info : Info). Ok info) (sym c.parts_as.ensures)

pub returns-else-is_empty : goal.returns-else-is_empty
unfolding whole_parts
returns-else-is_empty c = inr (overflows (parts_as c.args.form) (fault.Length c.args.form) (parts_at c.args.pool.now (fault.Length c.args.form) c.args.kind) c.args.bytes.now c.in-Ok.parts c.in-Ok.rest.now c.in-Ok.ensures c.is_empty.result c.is_empty.ensures c.if-is_empty.false)
