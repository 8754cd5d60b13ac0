use Rattle.kilim_fiber_laws.proofs.woven_kin.Trees.{came}
use Rattle.kilim_theorems.proofs.weaving.woven_kin.trees_come.Goals as goal

pub returns : goal.returns
returns c = λ p root l f tree shape k x like sound put. let w = came p root l f tree shape k x like sound put in (w.objects, w.builds, record { of = w.of; is = w.is })
