use Rattle.kilim_fiber_laws.proofs.stands.serves.Whole.{whole}
use Rattle.kilim_theorems.proofs.weaving.stands.serves.woven_serves.Goals as goal

pub returns : goal.returns
returns c = λ set W counted keeps plainly typed pauses short main woven. whole set W counted keeps plainly typed pauses short main woven
