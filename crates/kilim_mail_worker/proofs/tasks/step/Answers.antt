use Rattle.std.proofs.Common.{Some, ◌∙◌, sym}
use Rattle.kilim_mail_worker.proofs.Handing.{keeps_same}
use Rattle.kilim_mail_worker.proofs.Bodies.{pending_is}
use Rattle.kilim_mail_worker.proofs.tasks.step.Goals as goal

pub answer-requires-clause-serves : goal.answer-requires-clause-serves
answer-requires-clause-serves g c = λ set is. (c.requires.run set is).0

pub answer-requires-clause-stands : goal.answer-requires-clause-stands
answer-requires-clause-stands g c = λ set is. pending_is g.F.Fibers.task_of g.F.Fibers.course_of g.F.Fibers.holds g.F.Fibers.asked set c.args.body (Some c.in-Some.pending) (sym c.replace.ensures.value ∙ c.in-Some.is) (c.requires.stands set is)

pub advance-requires-clause-stands : goal.advance-requires-clause-stands
advance-requires-clause-stands g c κs _ = λ set is. pending_is g.F.Fibers.task_of g.F.Fibers.course_of g.F.Fibers.holds g.F.Fibers.asked set c.args.body c.replace.new.dest (sym c.replace.ensures.value ∙ (c.in-None.is ∙ sym c.replace.ensures.after)) (c.requires.stands set is)

pub returns-in-Ok-clause-passes : goal.returns-in-Ok-clause-passes
returns-in-Ok-clause-passes g c = keeps_same c.args.turns.now c.args.worker.now

pub returns-in-Err-clause-passes : goal.returns-in-Err-clause-passes
returns-in-Err-clause-passes g c = keeps_same c.args.turns.now c.args.worker.now
