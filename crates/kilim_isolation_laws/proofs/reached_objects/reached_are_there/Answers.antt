use Rattle.kilim_isolation_laws.proofs.reached_objects.Frames.{reached_are_there}
use Rattle.kilim_isolation_laws.proofs.reached_objects.reached_are_there.Goals as goal

pub returns : goal.returns
returns c = reached_are_there
