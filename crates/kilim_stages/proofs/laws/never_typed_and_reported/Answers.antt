use Rattle.kilim_stages.proofs.Both as both
use Rattle.kilim_stages.proofs.laws.never_typed_and_reported.Goals as goal

pub returns : goal.returns
returns c = both.never_typed c.class_file_is_spelled.ensures c.one_program.ensures
