use Rattle.kilim_class_file.proofs.ClassFormat.{a_class}
use Rattle.kilim_class_file.proofs.reading.parts_are_spelled.Goals as goal

pub returns : goal.returns
returns c = a_class c.pool_is_spelled.ensures c.attributes_are_spelled.ensures
