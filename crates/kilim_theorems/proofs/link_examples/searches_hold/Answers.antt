use Rattle.kilim_theorems.proofs.link_examples.Searching.{searches_hold}
use Rattle.kilim_theorems.proofs.link_examples.searches_hold.Goals as goal

pub returns : goal.returns
returns c = searches_hold
