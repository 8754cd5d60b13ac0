use Rattle.kilim_link_spec.proofs.Parts as parts
use Rattle.kilim_link_spec.proofs.laws.none_of_each_kind.Goals as goal

pub returns : goal.returns
returns c = parts.none_of_each_kind
