use Rattle.kilim_link_laws.proofs.Classes as classes
use Rattle.kilim_link_laws.proofs.laws.none_is_both.Goals as goal

pub returns : goal.returns
returns c = classes.none_is_both_of c.linked_in_parts.ensures c.none_has_a_problem.ensures c.none_of_each_kind.ensures
