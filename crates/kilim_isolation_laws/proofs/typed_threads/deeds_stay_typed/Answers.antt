use Rattle.kilim_isolation_laws.proofs.typed_threads.Moving.{deeds_stay_typed}
use Rattle.kilim_isolation_laws.proofs.typed_threads.deeds_stay_typed.Goals as goal

pub returns : goal.returns
returns c = deeds_stay_typed
