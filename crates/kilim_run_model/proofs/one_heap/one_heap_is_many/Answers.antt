use Rattle.kilim_run_model.proofs.one_heap.OneHeap.{one_heap_is_many}
use Rattle.kilim_run_model.proofs.one_heap.one_heap_is_many.Goals as goal

pub returns : goal.returns
returns c = one_heap_is_many
