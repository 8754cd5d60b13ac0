use Rattle.kilim_theorems.proofs.linked_weaving.Linked.{accepted}
use Rattle.kilim_theorems.proofs.linked_weaving.accepted_serves.Goals as goal

pub returns : goal.returns
returns c = accepted c.linked_serves.ensures
