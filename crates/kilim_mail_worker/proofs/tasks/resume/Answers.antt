use Rattle.kilim_mail_worker.proofs.Bodies.{stands_for, resumed}
use Rattle.kilim_mail_worker.proofs.tasks.resume.Goals as goal

pub resume-requires : goal.resume-requires
resume-requires g c =
    let some = c.requires.some in
    let r = c.requires.run some.0 some.1 in
    record { set = some.0; served = r.0; is-limits = r.1; stands = stands_for g.F.Fibers.task_of g.F.Fibers.course_of g.F.Fibers.holds g.F.Fibers.asked some.0 c.args.body.now c.requires.none (c.requires.stands some.0 some.1) }

pub returns-clause-wants : goal.returns-clause-wants
returns-clause-wants g c =
    resumed g.F.Fibers.task_of g.F.Fibers.course_of g.F.Fibers.holds g.F.Fibers.asked g.K.Run.of c.args.body.now c.resume.new.self c.requires.none c.requires.stands c.resume.result c.resume.ensures.task c.resume.ensures.course
    (λ set is. let r = c.requires.run set is in c.resume.ensures.wants set r.0 r.1 (stands_for g.F.Fibers.task_of g.F.Fibers.course_of g.F.Fibers.holds g.F.Fibers.asked set c.args.body.now c.requires.none (c.requires.stands set is)))
