use Rattle.kilim_run_trees.proofs.Tokens.{sizes_agree}
use Rattle.kilim_run_trees.proofs.laws.sizes_agree.Goals as goal

pub returns : goal.returns
returns c = sizes_agree
