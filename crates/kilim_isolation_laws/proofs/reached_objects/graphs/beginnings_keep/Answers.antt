use Rattle.kilim_isolation_laws.proofs.reached_objects.graphs.Beginning.{beginnings_keep}
use Rattle.kilim_isolation_laws.proofs.reached_objects.graphs.beginnings_keep.Goals as goal

pub returns : goal.returns
returns c = λ p typings listed kept s id m h n is b. beginnings_keep p typings listed kept s id m h n is b
