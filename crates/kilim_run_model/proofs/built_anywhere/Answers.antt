use Rattle.kilim_run_model.proofs.Anywhere as anywhere
use Rattle.kilim_run_model.proofs.built_anywhere.Goals as goal

pub returns : goal.returns
returns c = anywhere.built_anywhere
