use Rattle.kilim_type_sound.proofs.Grounds.{are_verified}
use Rattle.kilim_type_sound.proofs.are_verified.Goals as goal

pub returns : goal.returns
returns c = are_verified
