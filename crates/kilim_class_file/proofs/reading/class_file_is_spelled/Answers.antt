use Rattle.kilim_class_file.proofs.WholeClass.{are_spelled}
use Rattle.kilim_class_file.proofs.reading.class_file_is_spelled.Goals as goal

pub returns : goal.returns
returns c = are_spelled c.pool_is_spelled.ensures c.attributes_are_spelled.ensures
