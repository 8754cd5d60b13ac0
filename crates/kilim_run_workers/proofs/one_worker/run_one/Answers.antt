use Rattle.std.proofs.Common.{subst, sym}
use Rattle.std.specs.List.{AllByRecursion}
use Rattle.kilim_run_workers.specs.one_worker.Pool.{IsCalmFiber, IsCalmWaiter}
use Rattle.kilim_run_workers.proofs.one_worker.run_one.Goals as goal

pub boot-requires : goal.boot-requires
boot-requires g c = (c.requires.0, c.requires.1.run)

pub go_on_one-requires-clause-resting : goal.go_on_one-requires-clause-resting
go_on_one-requires-clause-resting g c κs _ =
    let new = c.in-Ok-new.ensures.board in
    record { roomy = c.in-Ok-new.ensures.roomy; cells = new.cells; running = new.stopped; stands = λ set is. c.in-Ok-new.ensures.stands set c.in-Ok.ensures.task c.in-Ok.ensures.course (c.in-Ok.ensures.stands set is.run) }

pub go_on_one-requires-clause-calm : goal.go_on_one-requires-clause-calm
go_on_one-requires-clause-calm g c κs _ =
    let new = c.in-Ok-new.ensures.board in
    record {
      ready = subst (λ fs. AllByRecursion (IsCalmFiber g.F.Fibers.refused) fs) (sym new.ready) (c.in-Ok.ensures.refused, tt);
      parked = subst (λ ws. AllByRecursion (IsCalmWaiter g.F.Fibers.refused) ws) (sym new.parked) tt;
    }
