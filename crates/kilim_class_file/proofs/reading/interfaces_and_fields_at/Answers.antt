use Rattle.kilim_class_file.specs.Reading.{class_index_at, field_at, list_at}
use Rattle.kilim_class_file.proofs.Boths.{both_read}
use Rattle.kilim_class_file.proofs.reading.interfaces_and_fields_at.Goals as goal

pub returns-in-Ok-fields_at : goal.returns-in-Ok-fields_at
returns-in-Ok-fields_at c =
    both_read (list_at c.args.len (class_index_at c.args.len c.args.pool.now)) (list_at c.args.len (field_at c.args.len c.args.pool.now))
    c.args.bytes.now c.in-Ok.interfaces c.in-Ok.rest.now c.in-Ok-fields_at.fields c.in-Ok-fields_at.rest.now c.in-Ok.ensures c.in-Ok-fields_at.ensures
