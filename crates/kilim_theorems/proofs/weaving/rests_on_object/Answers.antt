use Rattle.kilim_fiber_laws.proofs.Ready.{rests_on_object}
use Rattle.kilim_theorems.proofs.weaving.rests_on_object.Goals as goal

pub returns : goal.returns
returns c = rests_on_object
