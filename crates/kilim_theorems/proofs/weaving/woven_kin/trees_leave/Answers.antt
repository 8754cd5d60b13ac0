use Rattle.kilim_fiber_laws.proofs.woven_kin.Trees.{left, sound}
use Rattle.kilim_theorems.proofs.weaving.woven_kin.trees_leave.Goals as goal

pub returns : goal.returns
returns c = λ p root n m shape l f g given after tree out. (left p root n m shape l f g given after tree out, sound p root n m shape l f g given after tree out)
