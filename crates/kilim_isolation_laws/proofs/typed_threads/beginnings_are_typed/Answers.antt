use Rattle.kilim_isolation_laws.proofs.typed_threads.Threads.{beginnings_are_typed}
use Rattle.kilim_isolation_laws.proofs.typed_threads.beginnings_are_typed.Goals as goal

pub returns : goal.returns
returns c = beginnings_are_typed
