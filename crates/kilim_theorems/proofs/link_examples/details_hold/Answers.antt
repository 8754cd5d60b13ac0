use Rattle.kilim_theorems.proofs.link_examples.MoreFiles.{details_hold}
use Rattle.kilim_theorems.proofs.link_examples.details_hold.Goals as goal

pub returns : goal.returns
returns c = details_hold
