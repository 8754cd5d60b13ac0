use Rattle.kilim_theorems.proofs.link_examples.RelatedFiles.{relations_hold}
use Rattle.kilim_theorems.proofs.link_examples.relations_hold.Goals as goal

pub returns : goal.returns
returns c = relations_hold
