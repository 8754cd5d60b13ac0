use Rattle.kilim_link_laws.proofs.Bodies as bodies
use Rattle.kilim_link_laws.proofs.laws.built_in_is_last.Goals as goal

pub returns : goal.returns
returns c = bodies.built_in_is_last_of c.linked_in_parts.ensures c.none_has_a_problem.ensures c.none_of_each_kind.ensures
