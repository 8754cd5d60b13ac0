use Rattle.kilim_isolation_laws.proofs.Keeping.{threads_stand}
use Rattle.kilim_isolation_laws.proofs.threads_stand.Goals as goal

pub returns : goal.returns
returns c = λ set run t course last l lone quiet. threads_stand set run t course last l lone quiet
