use Rattle.kilim_isolation_laws.proofs.reached_objects.live.Live.{live_is_there}
use Rattle.kilim_isolation_laws.proofs.reached_objects.live.live_is_there.Goals as goal

pub returns : goal.returns
returns c = live_is_there
