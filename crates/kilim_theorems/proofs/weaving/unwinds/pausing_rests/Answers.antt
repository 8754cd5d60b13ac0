use Rattle.kilim_theorems.proofs.weaving.unwinds.Pausing.{pausing_rests}
use Rattle.kilim_theorems.proofs.weaving.unwinds.pausing_rests.Goals as goal

pub returns : goal.returns
returns c = pausing_rests
