use Rattle.kilim_weave_file_command.proofs.woven_files.Below.{stay_below}
use Rattle.kilim_weave_file_command.proofs.woven_files.laws.woven_files_stay_below.Goals as goal

pub returns : goal.returns
returns c = stay_below c.linked_in_parts.ensures c.none_has_a_problem.ensures c.none_of_each_kind.ensures
