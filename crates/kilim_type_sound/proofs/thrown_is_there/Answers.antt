use Rattle.kilim_type_sound.proofs.Theorem.{thrown_is_there}
use Rattle.kilim_type_sound.proofs.thrown_is_there.Goals as goal

pub returns : goal.returns
returns c = thrown_is_there
