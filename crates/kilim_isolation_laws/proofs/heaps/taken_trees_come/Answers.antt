use Rattle.kilim_isolation_laws.proofs.heaps.Heaps.{taken_trees_come}
use Rattle.kilim_isolation_laws.proofs.heaps.taken_trees_come.Goals as goal

pub returns : goal.returns
returns c = taken_trees_come
