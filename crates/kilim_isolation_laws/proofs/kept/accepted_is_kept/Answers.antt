use Rattle.kilim_isolation_laws.proofs.kept.Serving.{accepted_is_kept}
use Rattle.kilim_isolation_laws.proofs.kept.accepted_is_kept.Goals as goal

pub returns : goal.returns
returns c = accepted_is_kept
