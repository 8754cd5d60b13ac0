use Rattle.kilim_isolation.proofs.Accepting.{goes_on}
use Rattle.kilim_isolation.proofs.laws.accepted_goes_on.Goals as goal

pub returns : goal.returns
returns c t k id m is at there coded = goes_on t k id m is at there coded
