use Rattle.kilim_type_sound.proofs.Grown.{beginnings_fit}
use Rattle.kilim_type_sound.proofs.beginnings_fit.Goals as goal

pub returns : goal.returns
returns c = beginnings_fit
