-- An accepted program's threads are kept, so none shares.
use Rattle.kilim_run_model.proofs.one_heap.Isolation.{plays_isolated}
use Rattle.kilim_isolation_laws.proofs.kept.Serving.{accepted_is_kept}
use Rattle.kilim_isolation_laws.specs.accepted_runs.isolated.Laws.{AcceptedIsIsolated}

pub accepted_is_isolated : AcceptedIsIsolated
accepted_is_isolated set run live alive = plays_isolated live set run.main (accepted_is_kept set run live alive)
