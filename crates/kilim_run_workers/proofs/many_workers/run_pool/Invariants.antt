use Rattle.std.specs.Prelude.{[]}
use Rattle.kilim_run_workers.specs.one_worker.Pool.{IsOf}
use Rattle.kilim_run_workers.proofs.many_workers.run_pool.Given as goal

abbrev pub ghosts-run_of : goal.ghosts-run_of
ghosts-run_of g a = record { of = IsOf g.F.Fibers.serves a.code.now a.main a.limits.now; given = [] }
