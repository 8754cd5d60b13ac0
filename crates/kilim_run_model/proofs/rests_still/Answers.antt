use Rattle.kilim_run_model.proofs.Alone as alone
use Rattle.kilim_run_model.proofs.rests_still.Goals as goal

pub returns : goal.returns
returns c = alone.rests_still
