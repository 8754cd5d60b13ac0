use Rattle.kilim_link_laws.proofs.Differ as differ
use Rattle.kilim_link_laws.proofs.laws.names_differ.Goals as goal

pub returns : goal.returns
returns c = differ.names_differ_of c.linked_in_parts.ensures c.none_has_a_problem.ensures c.none_of_each_kind.ensures
