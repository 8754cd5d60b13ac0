use Rattle.kilim_class_grammar.specs.Reader.{both}
use Rattle.kilim_class_attributes.specs.declared.attribute.Place.TheVariants as place
use Rattle.kilim_class_file.specs.Reading.{class_index_at, field_at, method_at, list_at, attributes_in, lists_at}
use Rattle.kilim_class_file.proofs.Boths.{both_read}
use Rattle.kilim_class_file.proofs.reading.lists_at.Goals as goal

pub returns-in-Ok-methods_and_attributes_at : goal.returns-in-Ok-methods_and_attributes_at
unfolding lists_at
returns-in-Ok-methods_and_attributes_at c =
    both_read (both (list_at c.args.len (class_index_at c.args.len c.args.pool.now)) (list_at c.args.len (field_at c.args.len c.args.pool.now))) (both (list_at c.args.len (method_at c.args.len c.args.pool.now)) (attributes_in c.args.len c.args.pool.now place.Class))
    c.args.bytes.now c.in-Ok.first c.in-Ok.rest.now c.in-Ok-methods_and_attributes_at.last c.in-Ok-methods_and_attributes_at.rest.now c.in-Ok.ensures c.in-Ok-methods_and_attributes_at.ensures
