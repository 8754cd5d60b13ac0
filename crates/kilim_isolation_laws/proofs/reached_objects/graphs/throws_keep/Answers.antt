use Rattle.kilim_isolation_laws.proofs.reached_objects.graphs.Raising as law
use Rattle.kilim_isolation_laws.proofs.reached_objects.graphs.throws_keep.Goals as goal

pub returns : goal.returns
returns c = law.throws_keep
