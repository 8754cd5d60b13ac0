use Rattle.kilim_type_sound.proofs.Caught.{throws_fit}
use Rattle.kilim_type_sound.proofs.throws_fit.Goals as goal

pub returns : goal.returns
returns c = throws_fit
