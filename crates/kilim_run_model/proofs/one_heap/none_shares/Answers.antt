use Rattle.kilim_run_model.proofs.one_heap.Isolation.{plays_isolated}
use Rattle.kilim_run_model.proofs.one_heap.none_shares.Goals as goal

pub returns : goal.returns
returns c = plays_isolated
