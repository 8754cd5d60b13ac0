use Rattle.kilim_fiber_laws.proofs.Following.{next_follows}
use Rattle.kilim_theorems.proofs.weaving.next_follows.Goals as goal

pub returns : goal.returns
returns c = next_follows
