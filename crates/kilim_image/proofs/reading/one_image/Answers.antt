use Rattle.kilim_image.proofs.Whole.{one_image}
use Rattle.kilim_image.proofs.reading.one_image.Goals as goal

pub returns : goal.returns
returns c = one_image c.images_are_spelled.ensures c.texts_differ.ensures
