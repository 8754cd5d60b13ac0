use Rattle.kilim_isolation_laws.proofs.typed_threads.Threads.{threads_are_typed}
use Rattle.kilim_isolation_laws.proofs.typed_threads.threads_are_typed.Goals as goal

pub returns : goal.returns
returns c = threads_are_typed
