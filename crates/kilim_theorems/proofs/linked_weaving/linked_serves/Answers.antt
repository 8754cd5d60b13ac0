use Rattle.kilim_theorems.proofs.linked_weaving.Linked.{linked}
use Rattle.kilim_theorems.proofs.linked_weaving.linked_serves.Goals as goal

pub returns : goal.returns
returns c = linked c.linked_is_plain.ensures c.mains_begin.ensures c.runs_serve.ensures
