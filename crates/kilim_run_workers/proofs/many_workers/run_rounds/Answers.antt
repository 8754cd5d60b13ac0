use Rattle.kilim_run_workers.proofs.many_workers.run_rounds.Goals as goal

pub loop-init : goal.loop-init
loop-init g c = c.requires.may.free

pub run_round-requires-clause-may : goal.run_round-requires-clause-may
run_round-requires-clause-may g c κs _ = let may = c.requires.may in record { workers = may.workers; some = may.some; run = may.run; free = c.loop.invariant }

pub is_quiet-requires-clause-some : goal.is_quiet-requires-clause-some
is_quiet-requires-clause-some g c = c.requires.may.some

pub is_quiet-requires-clause-workers : goal.is_quiet-requires-clause-workers
is_quiet-requires-clause-workers g c = c.requires.may.workers.0
