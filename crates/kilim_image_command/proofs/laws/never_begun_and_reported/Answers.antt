use Rattle.kilim_image_command.proofs.Never.{begun}
use Rattle.kilim_image_command.proofs.laws.never_begun_and_reported.Goals as goal

pub returns : goal.returns
returns c = begun c.one_program_of.ensures c.woven_is_not_reported.ensures
