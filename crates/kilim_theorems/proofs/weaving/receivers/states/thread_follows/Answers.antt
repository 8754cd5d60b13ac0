use Rattle.kilim_fiber_laws.proofs.receivers.states.Whole.{thread_follows}
use Rattle.kilim_theorems.proofs.weaving.receivers.states.thread_follows.Goals as goal

pub returns : goal.returns
returns c = thread_follows
