use Rattle.kilim_theorems.proofs.link_examples.MorePrograms.{programs_are_linked}
use Rattle.kilim_theorems.proofs.link_examples.programs_are_linked.Goals as goal

pub returns : goal.returns
returns c = programs_are_linked
