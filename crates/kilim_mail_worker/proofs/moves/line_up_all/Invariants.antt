use Rattle.std.specs.List.{AllByRecursion}
use Rattle.kilim_run_model.specs.State.{Setting}
use Rattle.kilim_mail_ready.specs.Ready.{BodyStands}
use Rattle.kilim_mail_group.specs.Group.{bodies_items}
use Rattle.kilim_mail_worker.proofs.Handing.{Giving}
use Rattle.kilim_mail_worker.proofs.moves.line_up_all.Given as goal

abbrev pub invariant-loop-body : goal.invariant-loop-body
invariant-loop-body g l =
    Giving l.turns g.K.Run.of l.fn.worker l.worker (bodies_items l.fn.bodies.items) (bodies_items l.body-iterator.rest.items)
    × ((set : Setting) → g.K.Run.of set → AllByRecursion (BodyStands g.F.Fibers.task_of g.F.Fibers.course_of g.F.Fibers.holds g.F.Fibers.asked set) l.body-iterator.rest.items)
