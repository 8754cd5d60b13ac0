use Rattle.kilim_run_machine.proofs.Found.{found}
use Rattle.kilim_run_machine.proofs.laws.is_found.Goals as goal

pub returns : goal.returns
returns c = found
