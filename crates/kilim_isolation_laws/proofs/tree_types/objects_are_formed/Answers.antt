use Rattle.kilim_isolation_laws.proofs.tree_types.Formed.{objects_formed}
use Rattle.kilim_isolation_laws.proofs.tree_types.objects_are_formed.Goals as goal

pub returns : goal.returns
returns c = objects_formed
