use Rattle.kilim_stages.proofs.Both as both
use Rattle.kilim_stages.proofs.laws.one_program_of.Goals as goal

pub returns : goal.returns
returns c = both.same_program c.class_file_is_spelled.ensures c.one_program.ensures
