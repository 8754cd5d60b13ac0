use Rattle.kilim_type_sound.proofs.Grounds.{are_wanted}
use Rattle.kilim_type_sound.proofs.are_wanted.Goals as goal

pub returns : goal.returns
returns c = are_wanted
