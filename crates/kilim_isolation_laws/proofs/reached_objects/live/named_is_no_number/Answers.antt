use Rattle.kilim_isolation_laws.proofs.reached_objects.live.Live.{named_is_no_number}
use Rattle.kilim_isolation_laws.proofs.reached_objects.live.named_is_no_number.Goals as goal

pub returns : goal.returns
returns c = named_is_no_number
