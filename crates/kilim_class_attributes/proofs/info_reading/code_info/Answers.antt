use Rattle.std.proofs.Common.{inr}
use Rattle.kilim_class_attributes.specs.declared.parts.fault.AttributeFault.TheVariants as fault
use Rattle.kilim_class_attributes.specs.declared.parts.name.AttributeName.TheVariants as name
use Rattle.kilim_class_attributes.specs.declared.attribute.Info.TheVariants.{Code}
use Rattle.kilim_class_attributes.specs.Codes.{code_at}
use Rattle.kilim_class_attributes.proofs.Filled.{fills, overflows}
use Rattle.kilim_class_attributes.proofs.info_reading.code_info.Goals as goal

pub returns-then-is_empty : goal.returns-then-is_empty
returns-then-is_empty c = fills Code (fault.Length name.Code) (code_at c.args.pool.now) c.args.bytes.now c.in-Ok.code c.in-Ok.rest.now c.in-Ok.ensures c.is_empty.result c.is_empty.ensures c.if-is_empty.true

pub returns-else-is_empty : goal.returns-else-is_empty
returns-else-is_empty c = inr (overflows Code (fault.Length name.Code) (code_at c.args.pool.now) c.args.bytes.now c.in-Ok.code c.in-Ok.rest.now c.in-Ok.ensures c.is_empty.result c.is_empty.ensures c.if-is_empty.false)
