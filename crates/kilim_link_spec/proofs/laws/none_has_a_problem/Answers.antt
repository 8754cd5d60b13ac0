use Rattle.kilim_link_spec.proofs.Parts as parts
use Rattle.kilim_link_spec.proofs.laws.none_has_a_problem.Goals as goal

pub returns : goal.returns
returns c = parts.none_has_a_problem
