use Rattle.std.proofs.Common.{refl}
use Rattle.kilim_replay.proofs.machine.print.Goals as goal

pub returns-clause-printed : goal.returns-clause-printed
returns-clause-printed c = record { world = refl; stands = c.pass.ensures.stands; mailboxes = refl; told = refl }
