use Rattle.kilim_run_model.proofs.one_heap.OwnEnds.{no_own_ends}
use Rattle.kilim_run_model.proofs.one_heap.no_own_ends.Goals as goal

pub returns : goal.returns
returns c = no_own_ends
