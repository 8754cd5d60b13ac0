use Rattle.kilim_link_laws.proofs.LeftAbstract as leftAbstract
use Rattle.kilim_link_laws.proofs.laws.none_is_left_abstract.Goals as goal

pub returns : goal.returns
returns c = leftAbstract.none_is_left_abstract_of c.linked_in_parts.ensures c.none_has_a_problem.ensures c.none_of_each_kind.ensures
