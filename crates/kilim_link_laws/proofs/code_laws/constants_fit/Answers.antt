use Rattle.kilim_link_laws.proofs.code_laws.Constants as constants
use Rattle.kilim_link_laws.proofs.code_laws.constants_fit.Goals as goal

pub returns : goal.returns
returns c = constants.constants_fit_there c.linked_in_parts.ensures c.none_has_a_problem.ensures c.none_of_each_kind.ensures
