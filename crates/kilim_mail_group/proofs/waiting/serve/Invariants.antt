use Rattle.kilim_mail_group.proofs.Serving.{Serving}
use Rattle.kilim_mail_group.proofs.waiting.serve.Given as goal

abbrev pub invariant-loop-body : goal.invariant-loop-body
invariant-loop-body g l = Serving g.F.Fibers.task_of g.F.Fibers.course_of g.F.Fibers.asked g.K.Run.of g.F.Fibers.holds l.seat l.name l.initial.boxes l.boxes l.woken.items

abbrev pub decreases-loop-body : goal.decreases-loop-body
decreases-loop-body g l = l.boxes.many
