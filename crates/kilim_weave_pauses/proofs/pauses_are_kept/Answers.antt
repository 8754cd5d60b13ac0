use Rattle.kilim_weave_pauses.proofs.Pauses.{kept}
use Rattle.kilim_weave_pauses.proofs.pauses_are_kept.Goals as goal

pub returns : goal.returns
returns c = kept
