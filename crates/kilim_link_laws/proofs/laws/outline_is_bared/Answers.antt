use Rattle.kilim_link_laws.proofs.Bridge as bridge
use Rattle.kilim_link_laws.proofs.laws.outline_is_bared.Goals as goal

pub returns : goal.returns
returns c = bridge.outline_is c.linked_in_parts.ensures c.none_has_a_problem.ensures c.none_of_each_kind.ensures
