use Rattle.kilim_link_laws.proofs.code_laws.NoTaskArrays as types
use Rattle.kilim_link_laws.proofs.code_laws.no_task_arrays.Goals as goal

pub returns : goal.returns
returns c = types.no_task_arrays_there c.linked_in_parts.ensures c.none_has_a_problem.ensures c.none_of_each_kind.ensures
