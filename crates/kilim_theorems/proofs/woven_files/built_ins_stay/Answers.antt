use Rattle.kilim_theorems.proofs.woven_files.BuiltIns.{built_ins_stay}
use Rattle.kilim_theorems.proofs.woven_files.built_ins_stay.Goals as goal

pub returns : goal.returns
returns c = built_ins_stay
