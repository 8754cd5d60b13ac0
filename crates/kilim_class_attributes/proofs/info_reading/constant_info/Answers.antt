use Rattle.std.proofs.Common.{inr}
use Rattle.kilim_class_attributes.specs.declared.parts.fault.AttributeFault.TheVariants as fault
use Rattle.kilim_class_attributes.specs.declared.parts.name.AttributeName.TheVariants as name
use Rattle.kilim_class_attributes.specs.declared.parts.index.EntryKind.TheVariants as kind
use Rattle.kilim_class_attributes.specs.parts.Indices.{index_at}
use Rattle.kilim_class_attributes.specs.declared.attribute.Info.TheVariants.{ConstantValue}
use Rattle.kilim_class_attributes.proofs.Filled.{fills, overflows}
use Rattle.kilim_class_attributes.proofs.info_reading.constant_info.Goals as goal

pub returns-then-is_empty : goal.returns-then-is_empty
returns-then-is_empty c = fills ConstantValue (fault.Length name.ConstantValue) (index_at c.args.pool.now kind.Constant (fault.Length name.ConstantValue)) c.args.bytes.now c.in-Ok.index c.in-Ok.rest.now c.in-Ok.ensures c.is_empty.result c.is_empty.ensures c.if-is_empty.true

pub returns-else-is_empty : goal.returns-else-is_empty
returns-else-is_empty c = inr (overflows ConstantValue (fault.Length name.ConstantValue) (index_at c.args.pool.now kind.Constant (fault.Length name.ConstantValue)) c.args.bytes.now c.in-Ok.index c.in-Ok.rest.now c.in-Ok.ensures c.is_empty.result c.is_empty.ensures c.if-is_empty.false)
