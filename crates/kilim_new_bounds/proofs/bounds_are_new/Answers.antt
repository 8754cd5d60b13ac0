use Rattle.kilim_new_bounds.proofs.Runs.{accepted_new}
use Rattle.kilim_new_bounds.proofs.bounds_are_new.Goals as goal

pub returns : goal.returns
returns c = accepted_new
