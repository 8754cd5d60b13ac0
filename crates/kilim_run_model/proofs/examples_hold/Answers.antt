use Rattle.kilim_run_model.proofs.Examples.{examples}
use Rattle.kilim_run_model.proofs.examples_hold.Goals as goal

pub returns : goal.returns
returns c = examples
