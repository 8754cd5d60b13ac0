use Rattle.kilim_link_laws.proofs.code_laws.PausesBare as tables
use Rattle.kilim_link_laws.proofs.code_laws.none_pauses_with_table.Goals as goal

pub returns : goal.returns
returns c = tables.none_pauses_with_table c.linked_in_parts.ensures c.none_has_a_problem.ensures c.none_of_each_kind.ensures
