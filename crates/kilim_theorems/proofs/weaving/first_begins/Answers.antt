use Rattle.kilim_fiber_laws.proofs.Begins.{first_begins}
use Rattle.kilim_theorems.proofs.weaving.first_begins.Goals as goal

pub returns : goal.returns
returns c = first_begins
