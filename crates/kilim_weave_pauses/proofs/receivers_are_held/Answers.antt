use Rattle.kilim_weave_pauses.proofs.Accepted.{receivers_held}
use Rattle.kilim_weave_pauses.proofs.receivers_are_held.Goals as goal

pub returns : goal.returns
returns c = receivers_held
