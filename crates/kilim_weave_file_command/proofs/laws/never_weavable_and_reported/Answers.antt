use Rattle.kilim_weave_file_command.proofs.Never.{never}
use Rattle.kilim_weave_file_command.proofs.laws.never_weavable_and_reported.Goals as goal

pub returns : goal.returns
returns c = never c.class_file_is_spelled.ensures c.one_program_of.ensures c.never_both.ensures
