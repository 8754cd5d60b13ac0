use Rattle.kilim_type_laws.proofs.members.Finding.{finds_chosen}
use Rattle.kilim_type_laws.proofs.members.finds_chosen.Goals as goal

pub returns : goal.returns
returns c = finds_chosen
