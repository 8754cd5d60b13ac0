use Rattle.kilim_isolation_laws.proofs.typed_threads.fine.Fine.{fitting_is_fine}
use Rattle.kilim_isolation_laws.proofs.typed_threads.fine.fitting_is_fine.Goals as goal

pub returns : goal.returns
returns c = fitting_is_fine
