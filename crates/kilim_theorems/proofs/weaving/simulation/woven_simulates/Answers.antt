use Rattle.kilim_fiber_laws.proofs.simulation.Same.{serves, bound_is_enough}
use Rattle.kilim_fiber_spec.specs.Runs.{most_uncounted}
use Rattle.kilim_fiber_spec.specs.Serves.{From}
use Rattle.kilim_theorems.proofs.weaving.simulation.woven_simulates.Goals as goal

pub returns : goal.returns
returns c = λ set W marks form members facts rows first known. serves set W marks most_uncounted members form facts rows bound_is_enough (From set first) known
