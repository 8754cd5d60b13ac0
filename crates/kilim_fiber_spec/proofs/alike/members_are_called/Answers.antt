use Rattle.kilim_fiber_spec.proofs.alike.FiberCalls.{members_from}
use Rattle.kilim_fiber_spec.proofs.alike.members_are_called.Goals as goal

pub returns : goal.returns
returns c = λ P W fiber is each. members_from P W fiber is each
