use Rattle.kilim_link_laws.proofs.code_laws.TablesStand as tables
use Rattle.kilim_link_laws.proofs.code_laws.tables_stand.Goals as goal

pub returns : goal.returns
returns c = tables.tables_stand c.linked_in_parts.ensures c.none_has_a_problem.ensures c.none_of_each_kind.ensures
