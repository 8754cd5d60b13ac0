use Rattle.kilim_fiber_laws.proofs.woven_served.ready.Values.{all_fit, slots_fit}
use Rattle.kilim_theorems.proofs.weaving.woven_served.ready.values_fit.Goals as goal

pub returns : goal.returns
returns c = λ P W agree none of h heap old own. (λ ts vs e u t. all_fit P W agree none of h heap old own ts vs e u t, λ live l ts u holds there. slots_fit P W agree none of h heap old own live l ts u holds there)
