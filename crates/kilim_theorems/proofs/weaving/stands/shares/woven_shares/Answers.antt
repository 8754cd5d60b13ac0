use Rattle.kilim_fiber_laws.proofs.stands.shares.Together.{shares_rows, shares_pauses}
use Rattle.kilim_theorems.proofs.weaving.stands.shares.woven_shares.Goals as goal

pub returns : goal.returns
returns c = λ set W counted keeps plainly typed main form. (shares_rows set W counted keeps plainly typed form, shares_pauses set W counted keeps plainly typed form main)
