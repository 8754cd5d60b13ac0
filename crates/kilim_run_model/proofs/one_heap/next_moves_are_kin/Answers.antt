use Rattle.kilim_run_model.proofs.one_heap.Nexts.{next_kin}
use Rattle.kilim_run_model.proofs.one_heap.next_moves_are_kin.Goals as goal

pub returns : goal.returns
returns c = next_kin
