use Rattle.kilim_run_model.proofs.Alone as alone
use Rattle.kilim_run_model.proofs.one_lone.Goals as goal

pub returns : goal.returns
returns c = alone.one_lone
