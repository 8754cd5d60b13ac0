use Rattle.kilim_link_laws.proofs.Overriding as overriding
use Rattle.kilim_link_laws.proofs.laws.overriding_agrees.Goals as goal

pub returns : goal.returns
returns c = overriding.overriding_agrees_of c.linked_in_parts.ensures c.none_has_a_problem.ensures c.none_of_each_kind.ensures
