use Rattle.kilim_isolation_laws.proofs.names.Given.{given_trees_leave}
use Rattle.kilim_isolation_laws.proofs.names.given_trees_leave.Goals as goal

pub returns : goal.returns
returns c = given_trees_leave
