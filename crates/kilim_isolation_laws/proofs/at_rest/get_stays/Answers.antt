use Rattle.kilim_isolation_laws.proofs.at_rest.Stays as stays
use Rattle.kilim_isolation_laws.proofs.at_rest.get_stays.Goals as goal

pub returns : goal.returns
returns c = stays.get_stays
