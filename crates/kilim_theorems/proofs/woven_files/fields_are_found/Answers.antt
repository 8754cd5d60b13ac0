use Rattle.kilim_theorems.proofs.woven_files.Worlds.{fields_are_found}
use Rattle.kilim_theorems.proofs.woven_files.fields_are_found.Goals as goal

pub returns : goal.returns
returns c = fields_are_found
