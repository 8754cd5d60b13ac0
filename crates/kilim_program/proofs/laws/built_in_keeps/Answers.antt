use Rattle.kilim_program.proofs.BuiltInPrograms.{built_in_keeps}
use Rattle.kilim_program.proofs.laws.built_in_keeps.Goals as goal

pub returns : goal.returns
returns c = built_in_keeps
