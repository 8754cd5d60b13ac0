use Rattle.kilim_theorems.proofs.woven_files.pool.Counting.{counted}
use Rattle.kilim_theorems.proofs.woven_files.pool.needs_are_counted.Goals as goal

pub returns : goal.returns
returns c = λ cover old needs named h. counted cover old needs named h
