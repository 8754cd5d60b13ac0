use Rattle.kilim_fiber_laws.proofs.courses.GoesOn.{goes_on}
use Rattle.kilim_theorems.proofs.weaving.courses.courses_go_on.Goals as goal

pub returns : goal.returns
returns c = λ set t is. goes_on set t is
