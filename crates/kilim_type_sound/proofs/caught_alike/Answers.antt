use Rattle.kilim_type_sound.proofs.Alike.{caught_alike}
use Rattle.kilim_type_sound.proofs.caught_alike.Goals as goal

pub returns : goal.returns
returns c = caught_alike
