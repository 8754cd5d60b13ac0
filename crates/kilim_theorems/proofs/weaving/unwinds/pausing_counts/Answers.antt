use Rattle.kilim_theorems.proofs.weaving.unwinds.Counting.{pausing_counts}
use Rattle.kilim_theorems.proofs.weaving.unwinds.pausing_counts.Goals as goal

pub returns : goal.returns
returns c = pausing_counts
