use Rattle.kilim_theorems.proofs.link_examples.EdgeFiles.{edges_hold}
use Rattle.kilim_theorems.proofs.link_examples.edges_hold.Goals as goal

pub returns : goal.returns
returns c = edges_hold
