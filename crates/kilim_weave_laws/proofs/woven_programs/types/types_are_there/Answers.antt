use Rattle.kilim_weave_laws.proofs.woven_programs.types.Together.{all_there}
use Rattle.kilim_weave_laws.proofs.woven_programs.types.types_are_there.Goals as goal

pub returns : goal.returns
returns c = all_there
