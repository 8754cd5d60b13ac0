use Rattle.kilim_class_attributes.specs.declared.parts.fault.AttributeFault.TheVariants as fault
use Rattle.kilim_class_attributes.specs.Attributes.{attribute_of, attribute_at}
use Rattle.kilim_class_attributes.specs.Lists.{named_bytes_at}
use Rattle.kilim_class_attributes.proofs.Filled.{turned_ok}
use Rattle.kilim_class_attributes.proofs.reading.attribute_at.Goals as goal

pub returns-in-Ok-attribute_of : goal.returns-in-Ok-attribute_of
unfolding attribute_at
returns-in-Ok-attribute_of c =
    turned_ok (attribute_of c.args.pool.now c.args.place c.args.before.now) (named_bytes_at fault.Cut) c.args.bytes.now (c.in-Ok.name, c.in-Ok.content.now) c.in-Ok.rest.now c.in-Ok-attribute_of.attribute c.in-Ok.ensures c.in-Ok-attribute_of.ensures
