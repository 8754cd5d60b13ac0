use Rattle.kilim_class_making.proofs.pool_needs.growth.Files.{file_too}
use Rattle.kilim_class_making.proofs.pool_needs.growth.files_stay.Goals as goal

pub returns : goal.returns
returns c = λ file pool fits extends well. file_too file pool fits extends well
