use Rattle.kilim_type_sound.proofs.Caught.{all_handlers_keep}
use Rattle.kilim_type_sound.proofs.all_handlers_keep.Goals as goal

pub returns : goal.returns
returns c = all_handlers_keep
