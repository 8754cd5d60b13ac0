use Rattle.kilim_run_workers.specs.Workers.{HasWorked}
use Rattle.kilim_run_workers.proofs.worker.run_worker.Given as goal

abbrev pub invariant-loop : goal.invariant-loop
invariant-loop g l = HasWorked l.turn l.initial.pass l.pass
