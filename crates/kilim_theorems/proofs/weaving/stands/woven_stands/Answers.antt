use Rattle.kilim_fiber_laws.proofs.stands.Formed.{formed}
use Rattle.kilim_theorems.proofs.weaving.stands.woven_stands.Goals as goal

pub returns : goal.returns
returns c = λ set W counted keeps plainly typed pauses short woven.
    (λ m. (formed set W counted keeps plainly typed pauses short woven m).0, λ m. (formed set W counted keeps plainly typed pauses short woven m).1, λ m. (formed set W counted keeps plainly typed pauses short woven m).2)
