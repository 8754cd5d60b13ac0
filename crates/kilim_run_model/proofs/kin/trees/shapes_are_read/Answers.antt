use Rattle.kilim_run_model.proofs.kin.trees.ReadBack.{shapes_give}
use Rattle.kilim_run_model.proofs.kin.trees.shapes_are_read.Goals as goal

pub returns : goal.returns
returns c = λ p. shapes_give p
