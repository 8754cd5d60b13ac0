use Rattle.kilim_fiber_laws.proofs.stands.shares.Called.{each}
use Rattle.kilim_fiber_laws.proofs.stands.shares.Fibers.{fiber_is}
use Rattle.kilim_theorems.proofs.weaving.stands.shares.members_stand.Goals as goal

pub returns : goal.returns
returns c = λ P W counted keeps plainly form. (fiber_is P W counted keeps plainly form, each P W counted keeps plainly form)
