use Rattle.kilim_theorems.proofs.run_examples.Caught.{caught_counts_once}
use Rattle.kilim_theorems.proofs.run_examples.caught_counts_once.Goals as goal

pub returns : goal.returns
returns c = caught_counts_once
