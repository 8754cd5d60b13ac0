use Rattle.kilim_fiber_laws.proofs.Ready.{fibers_are_ready}
use Rattle.kilim_theorems.proofs.weaving.fibers_are_ready.Goals as goal

pub returns : goal.returns
returns c = fibers_are_ready
