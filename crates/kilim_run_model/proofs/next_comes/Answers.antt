use Rattle.kilim_run_model.proofs.Alone as alone
use Rattle.kilim_run_model.proofs.next_comes.Goals as goal

pub returns : goal.returns
returns c = alone.next_comes
