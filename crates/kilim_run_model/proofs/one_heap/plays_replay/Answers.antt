use Rattle.kilim_run_model.proofs.one_heap.OneHeap.{plays_replay}
use Rattle.kilim_run_model.proofs.one_heap.plays_replay.Goals as goal

pub returns : goal.returns
returns c = plays_replay
