use Rattle.kilim_isolation_laws.proofs.reached_objects.walk.Listed.{frames_are_listed}
use Rattle.kilim_isolation_laws.proofs.reached_objects.walk.frames_are_listed.Goals as goal

pub returns : goal.returns
returns c = frames_are_listed
