use Rattle.kilim_isolation_laws.proofs.reached_objects.walk.Walks.{walks_by_types}
use Rattle.kilim_isolation_laws.proofs.reached_objects.walk.walks_by_types.Goals as goal

pub returns : goal.returns
returns c = walks_by_types
