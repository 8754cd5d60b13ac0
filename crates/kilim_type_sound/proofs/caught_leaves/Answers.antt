use Rattle.kilim_type_sound.proofs.Left.{caught_leaves}
use Rattle.kilim_type_sound.proofs.caught_leaves.Goals as goal

pub returns : goal.returns
returns c = caught_leaves
