use Rattle.kilim_class_attributes.specs.declared.attribute.Place.TheVariants as place
use Rattle.kilim_class_file.specs.Reading.{method_at, list_at, attributes_in}
use Rattle.kilim_class_file.proofs.Boths.{both_read}
use Rattle.kilim_class_file.proofs.reading.methods_and_attributes_at.Goals as goal

pub returns-in-Ok-attributes_in : goal.returns-in-Ok-attributes_in
returns-in-Ok-attributes_in c =
    both_read (list_at c.args.len (method_at c.args.len c.args.pool.now)) (attributes_in c.args.len c.args.pool.now place.Class)
    c.args.bytes.now c.in-Ok.methods c.in-Ok.rest.now c.in-Ok-attributes_in.attributes c.in-Ok-attributes_in.rest.now c.in-Ok.ensures c.in-Ok-attributes_in.ensures
