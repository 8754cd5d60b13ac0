use Rattle.kilim_class_mutf8.proofs.Wholes as wholes
use Rattle.kilim_class_mutf8.proofs.writing.units_are_spelled.Goals as goal

pub returns : goal.returns
returns c = wholes.units_are_spelled
