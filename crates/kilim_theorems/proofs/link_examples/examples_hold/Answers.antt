use Rattle.kilim_theorems.proofs.link_examples.SmallFiles.{examples_hold}
use Rattle.kilim_theorems.proofs.link_examples.examples_hold.Goals as goal

pub returns : goal.returns
returns c = examples_hold
