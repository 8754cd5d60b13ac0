use Rattle.kilim_isolation_laws.proofs.tree_types.Allowed.{trees_allowed}
use Rattle.kilim_isolation_laws.proofs.tree_types.trees_are_allowed.Goals as goal

pub returns : goal.returns
returns c = trees_allowed
