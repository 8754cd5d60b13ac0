use Rattle.kilim_type_sound.proofs.Theorem.{moves_fit}
use Rattle.kilim_type_sound.proofs.moves_fit.Goals as goal

pub returns : goal.returns
returns c = moves_fit
