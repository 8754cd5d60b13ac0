use Rattle.kilim_weave_file_spec.specs.Texts.{woven_descriptor}
use Rattle.kilim_theorems.specs.woven_files.Descriptors.{IsPlain}
use Rattle.kilim_theorems.proofs.woven_files.DescriptorsApart.{apart}
use Rattle.kilim_theorems.proofs.woven_files.Finding.{found_again}
use Rattle.kilim_theorems.proofs.woven_files.methods_are_found.Goals as goal

pub returns : goal.returns
returns c = λ w v cs name descriptor b same id pauses. found_again woven_descriptor IsPlain w v cs name descriptor b apart same id pauses
