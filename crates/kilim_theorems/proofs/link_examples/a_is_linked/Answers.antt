use Rattle.kilim_theorems.proofs.link_examples.ClassA.{a_is_linked}
use Rattle.kilim_theorems.proofs.link_examples.a_is_linked.Goals as goal

pub returns : goal.returns
returns c = a_is_linked
