use Rattle.kilim_isolation_laws.proofs.at_rest.Rest as rest
use Rattle.kilim_isolation_laws.proofs.at_rest.one_rest.Goals as goal

pub returns : goal.returns
returns c = rest.one_rest
