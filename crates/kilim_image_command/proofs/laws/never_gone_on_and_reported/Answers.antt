use Rattle.kilim_image_command.proofs.Never.{gone_on}
use Rattle.kilim_image_command.proofs.laws.never_gone_on_and_reported.Goals as goal

pub returns : goal.returns
returns c = gone_on c.one_image.ensures c.one_program_of.ensures c.never_begun_and_reported.ensures
