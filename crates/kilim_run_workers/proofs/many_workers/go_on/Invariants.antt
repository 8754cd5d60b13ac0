use Rattle.kilim_run_workers.specs.one_worker.Pool.{IsOf}
use Rattle.kilim_run_workers.proofs.many_workers.go_on.Given as goal

abbrev pub ghosts-go_on_of : goal.ghosts-go_on_of
ghosts-go_on_of g a = record { of = IsOf g.F.Fibers.serves a.code.now a.main a.limits.now; given = a.board.journal.items }
