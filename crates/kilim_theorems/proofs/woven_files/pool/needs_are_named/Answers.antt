use Rattle.kilim_theorems.proofs.woven_files.pool.Naming.{grows}
use Rattle.kilim_theorems.proofs.woven_files.pool.needs_are_named.Goals as goal

pub returns : goal.returns
returns c = λ old needs classes. grows old needs classes
