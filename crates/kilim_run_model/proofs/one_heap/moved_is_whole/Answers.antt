use Rattle.kilim_run_model.proofs.one_heap.OneHeap.{moved_is_whole}
use Rattle.kilim_run_model.proofs.one_heap.moved_is_whole.Goals as goal

pub returns : goal.returns
returns c = moved_is_whole
