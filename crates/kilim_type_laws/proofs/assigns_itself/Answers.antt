use Rattle.kilim_type_laws.proofs.Itself.{assigns_itself}
use Rattle.kilim_type_laws.proofs.assigns_itself.Goals as goal

pub returns : goal.returns
returns c = assigns_itself
