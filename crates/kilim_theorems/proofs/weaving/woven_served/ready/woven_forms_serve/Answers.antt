use Rattle.kilim_fiber_laws.proofs.woven_served.ready.Whole.{woven_forms_serve}
use Rattle.kilim_theorems.proofs.weaving.woven_served.ready.woven_forms_serve.Goals as goal

pub returns : goal.returns
returns c = woven_forms_serve
