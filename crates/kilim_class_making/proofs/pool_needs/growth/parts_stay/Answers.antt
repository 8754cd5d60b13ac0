use Rattle.kilim_class_making.proofs.pool_needs.growth.Files.{fits_too}
use Rattle.kilim_class_making.proofs.pool_needs.growth.parts_stay.Goals as goal

pub returns : goal.returns
returns c = λ old new extends. fits_too old new extends
