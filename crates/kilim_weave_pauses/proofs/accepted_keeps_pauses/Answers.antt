use Rattle.kilim_weave_pauses.proofs.Accepted.{accepted_keeps}
use Rattle.kilim_weave_pauses.proofs.accepted_keeps_pauses.Goals as goal

pub returns : goal.returns
returns c = accepted_keeps
