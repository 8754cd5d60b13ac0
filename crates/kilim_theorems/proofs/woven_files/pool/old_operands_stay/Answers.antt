use Rattle.kilim_theorems.proofs.woven_files.pool.Naming.{same_operands}
use Rattle.kilim_theorems.proofs.woven_files.pool.old_operands_stay.Goals as goal

pub returns : goal.returns
returns c = λ old more well. same_operands old more well
