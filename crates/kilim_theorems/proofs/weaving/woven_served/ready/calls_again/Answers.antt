use Rattle.kilim_fiber_laws.proofs.woven_served.ready.Redone.{redone}
use Rattle.kilim_theorems.proofs.weaving.woven_served.ready.calls_again.Goals as goal

pub returns : goal.returns
returns c = λ P of h heap k y m to l s b there l2 s2. redone P of h heap b.own b.named k b.callee b.entered b.coded y there to l2 s2 b.i b.names b.target
