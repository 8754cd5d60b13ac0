use Rattle.kilim_weave_file_command.proofs.woven_files.Never.{never}
use Rattle.kilim_weave_file_command.proofs.woven_files.laws.never_woven_and_reported.Goals as goal

pub returns : goal.returns
returns c = never c.class_file_is_spelled.ensures c.one_program_of.ensures c.woven_is_not_reported.ensures
