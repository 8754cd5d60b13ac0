use Rattle.kilim_type_sound.proofs.Grown.{all_answers_fit}
use Rattle.kilim_type_sound.proofs.all_answers_fit.Goals as goal

pub returns : goal.returns
returns c = all_answers_fit
