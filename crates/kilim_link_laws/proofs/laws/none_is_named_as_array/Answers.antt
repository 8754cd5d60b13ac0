use Rattle.kilim_link_laws.proofs.ClassNames as names
use Rattle.kilim_link_laws.proofs.laws.none_is_named_as_array.Goals as goal

pub returns : goal.returns
returns c = names.none_is_named_as_array_of c.linked_in_parts.ensures c.none_has_a_problem.ensures c.none_of_each_kind.ensures
