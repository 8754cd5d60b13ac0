use Rattle.kilim_isolation_laws.proofs.reached_objects.live.Live as law
use Rattle.kilim_isolation_laws.proofs.reached_objects.live.live_below_is_there.Goals as goal

pub returns : goal.returns
returns c = law.live_below_is_there
