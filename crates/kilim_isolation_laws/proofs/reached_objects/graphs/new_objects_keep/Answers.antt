use Rattle.kilim_isolation_laws.proofs.reached_objects.graphs.Raising as law
use Rattle.kilim_isolation_laws.proofs.reached_objects.graphs.new_objects_keep.Goals as goal

pub returns : goal.returns
returns c = law.new_objects_keep
