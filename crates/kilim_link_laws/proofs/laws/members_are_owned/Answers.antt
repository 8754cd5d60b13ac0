use Rattle.kilim_link_laws.proofs.Owned as owned
use Rattle.kilim_link_laws.proofs.laws.members_are_owned.Goals as goal

pub returns : goal.returns
returns c = owned.members_are_owned_of c.linked_in_parts.ensures c.none_has_a_problem.ensures c.none_of_each_kind.ensures
