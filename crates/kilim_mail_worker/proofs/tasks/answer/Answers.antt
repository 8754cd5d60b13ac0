use Rattle.std.proofs.Common.{Some}
use Rattle.kilim_mail_worker.proofs.Bodies.{goes_on}
use Rattle.kilim_mail_worker.proofs.tasks.answer.Goals as goal

pub returns-in-Ok-clause-stands : goal.returns-in-Ok-clause-stands
returns-in-Ok-clause-stands g c = λ set is.
    goes_on g.F.Fibers.task_of g.F.Fibers.course_of g.F.Fibers.holds g.F.Fibers.asked set c.args.body c.args.answer c.answer.new.self c.requires.none (c.requires.stands set is) c.in-Ok.ensures.task
    (λ wish d asks fits. let r = c.in-Ok.ensures.goes set wish (Some d) (c.requires.serves set is) asks fits in (r.0, r.1))
