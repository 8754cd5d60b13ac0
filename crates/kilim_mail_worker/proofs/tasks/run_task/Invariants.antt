use Rattle.kilim_run_model.specs.State.{Setting}
use Rattle.kilim_mail_ledger.specs.Ledger.{items_of}
use Rattle.kilim_mail_notes.specs.Histories.{trace_of}
use Rattle.kilim_mail_ready.specs.Ready.{BodyStands}
use Rattle.kilim_mail_worker.specs.Turns.{KeepsPasses, Works}
use Rattle.kilim_mail_worker.proofs.tasks.run_task.Given as goal

abbrev pub invariant-loop : goal.invariant-loop
invariant-loop g l =
    KeepsPasses l.turns l.initial.worker l.worker × Works g.K.Run.of l.turns l.worker (items_of (trace_of l.body.history))
    × ((set : Setting) → g.K.Run.of set → BodyStands g.F.Fibers.task_of g.F.Fibers.course_of g.F.Fibers.holds g.F.Fibers.asked set l.body)
