use Rattle.kilim_image_command.proofs.Never.{saved}
use Rattle.kilim_image_command.proofs.laws.never_saved_and_reported.Goals as goal

pub returns : goal.returns
returns c = saved c.one_program_of.ensures c.never_begun_and_reported.ensures
