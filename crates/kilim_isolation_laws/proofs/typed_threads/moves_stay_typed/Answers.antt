use Rattle.kilim_isolation_laws.proofs.typed_threads.Moving.{moves_stay_typed}
use Rattle.kilim_isolation_laws.proofs.typed_threads.moves_stay_typed.Goals as goal

pub returns : goal.returns
returns c = moves_stay_typed
