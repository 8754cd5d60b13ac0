use Rattle.std.proofs.Common.{refl}
use Rattle.kilim_replay.proofs.machine.bound.Goals as goal

pub returns-clause-bounded : goal.returns-clause-bounded
returns-clause-bounded c = record { world = refl; stands = c.pass.ensures.stands; mails = c.in-Ok.ensures; told = refl }
