use Rattle.kilim_type_sound.proofs.Caught.{all_raises_fit}
use Rattle.kilim_type_sound.proofs.all_raises_fit.Goals as goal

pub returns : goal.returns
returns c = all_raises_fit
