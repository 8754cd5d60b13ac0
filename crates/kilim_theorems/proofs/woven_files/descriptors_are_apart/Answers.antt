use Rattle.kilim_theorems.proofs.woven_files.DescriptorsApart.{apart}
use Rattle.kilim_theorems.proofs.woven_files.descriptors_are_apart.Goals as goal

pub returns : goal.returns
returns c = apart
