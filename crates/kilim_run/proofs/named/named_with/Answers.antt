use Rattle.kilim_run.proofs.named.named_with.Goals as goal

pub run_pool-requires-clause-workers : goal.run_pool-requires-clause-workers
run_pool-requires-clause-workers g c κs within = c.requires.workers

pub run_pool-requires-clause-some : goal.run_pool-requires-clause-some
run_pool-requires-clause-some g c κs within = c.requires.some

pub returns : goal.returns
returns g c = c.run_pool.ensures
