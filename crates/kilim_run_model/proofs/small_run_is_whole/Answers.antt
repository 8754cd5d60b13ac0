use Rattle.kilim_run_model.proofs.SmallRun.{is_whole}
use Rattle.kilim_run_model.proofs.small_run_is_whole.Goals as goal

pub returns : goal.returns
returns c = λ s steps left. is_whole s steps left
