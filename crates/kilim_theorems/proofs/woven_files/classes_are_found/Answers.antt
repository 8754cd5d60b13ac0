use Rattle.kilim_theorems.proofs.woven_files.Worlds.{classes_are_found}
use Rattle.kilim_theorems.proofs.woven_files.classes_are_found.Goals as goal

pub returns : goal.returns
returns c = classes_are_found
