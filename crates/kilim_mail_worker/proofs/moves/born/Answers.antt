use Rattle.kilim_mail_worker.proofs.Bodies.{begun}
use Rattle.kilim_mail_worker.proofs.moves.born.Goals as goal

pub returns-clause-stands : goal.returns-clause-stands
returns-clause-stands g c = λ set is.
    begun g.F.Fibers.task_of g.F.Fibers.course_of g.F.Fibers.holds g.F.Fibers.asked set c.number.new.self c.args.number c.args.stamp c.args.history (g.F.Fibers.course_of c.args.new) c.number.ensures.task c.number.ensures.course c.requires.course (c.number.ensures.stands set (c.requires.stands set is)) c.requires.history
