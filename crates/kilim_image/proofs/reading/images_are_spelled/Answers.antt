use Rattle.kilim_image.proofs.Whole.{are_spelled}
use Rattle.kilim_image.proofs.reading.images_are_spelled.Goals as goal

pub returns : goal.returns
returns c = are_spelled c.parts_are_spelled.ensures
