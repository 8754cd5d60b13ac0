use Rattle.kilim_theorems.proofs.run_examples.States.{states_are_judged}
use Rattle.kilim_theorems.proofs.run_examples.states_are_judged.Goals as goal

pub returns : goal.returns
returns c = states_are_judged
