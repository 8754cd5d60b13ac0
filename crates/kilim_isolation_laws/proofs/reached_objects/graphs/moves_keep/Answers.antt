use Rattle.kilim_isolation_laws.proofs.reached_objects.graphs.Thread.{moves_keep}
use Rattle.kilim_isolation_laws.proofs.reached_objects.graphs.moves_keep.Goals as goal

pub returns : goal.returns
returns c = λ p typings listed kept top frames h s v t. moves_keep p typings listed kept top frames h s v t
