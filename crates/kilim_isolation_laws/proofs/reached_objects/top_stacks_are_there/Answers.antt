use Rattle.kilim_isolation_laws.proofs.reached_objects.Frames.{top_stacks_are_there}
use Rattle.kilim_isolation_laws.proofs.reached_objects.top_stacks_are_there.Goals as goal

pub returns : goal.returns
returns c = top_stacks_are_there
