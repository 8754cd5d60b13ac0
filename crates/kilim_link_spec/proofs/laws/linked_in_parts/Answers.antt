use Rattle.kilim_link_spec.proofs.Parts as parts
use Rattle.kilim_link_spec.proofs.laws.linked_in_parts.Goals as goal

pub returns : goal.returns
returns c = parts.linked_in_parts
