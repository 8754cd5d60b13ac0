use Rattle.kilim_image.proofs.Formats.{an_image}
use Rattle.kilim_image.proofs.reading.parts_are_spelled.Goals as goal

pub returns : goal.returns
returns c = an_image
