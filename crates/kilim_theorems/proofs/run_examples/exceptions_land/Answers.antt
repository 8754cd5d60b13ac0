use Rattle.kilim_theorems.proofs.run_examples.Exceptions.{exceptions_land}
use Rattle.kilim_theorems.proofs.run_examples.exceptions_land.Goals as goal

pub returns : goal.returns
returns c = exceptions_land
