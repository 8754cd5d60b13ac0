use Rattle.std.proofs.Common.{subst, refl, []}
use Rattle.kilim_run_board.specs.declared.fibers.Wants.{Wants}
use Rattle.kilim_run_board.specs.fibers.Fibers.{StartsAtNone}
use Rattle.kilim_mail_ledger.specs.Ledger.{items_of}
use Rattle.kilim_mail_notes.specs.Histories.{trace_of}
use Rattle.kilim_mail_worker.specs.Turns.{BodyWants}
use Rattle.kilim_mail_worker.proofs.Handing.{keeps_alone, works_alone}
use Rattle.kilim_mail_worker.proofs.tasks.grant.Goals as goal

pub act-requires-clause-meets : goal.act-requires-clause-meets
act-requires-clause-meets g c κs _ = λ set is. subst (λ (x : Wants _). BodyWants g.F.Fibers.task_of g.F.Fibers.course_of g.F.Fibers.holds g.F.Fibers.asked set c.args.body x) c.in-Put.is (c.requires.wants set is)

pub act-requires-in-PutWait-clause-meets : goal.act-requires-in-PutWait-clause-meets
act-requires-in-PutWait-clause-meets g c κs _ = λ set is. subst (λ (x : Wants _). BodyWants g.F.Fibers.task_of g.F.Fibers.course_of g.F.Fibers.holds g.F.Fibers.asked set c.args.body x) c.in-PutWait.is (c.requires.wants set is)

pub act-requires-in-Bound-clause-meets : goal.act-requires-in-Bound-clause-meets
act-requires-in-Bound-clause-meets g c κs _ = λ set is. subst (λ (x : Wants _). BodyWants g.F.Fibers.task_of g.F.Fibers.course_of g.F.Fibers.holds g.F.Fibers.asked set c.args.body x) c.in-Bound.is (c.requires.wants set is)

pub act-requires-in-Take-clause-meets : goal.act-requires-in-Take-clause-meets
act-requires-in-Take-clause-meets g c κs _ = λ set is. subst (λ (x : Wants _). BodyWants g.F.Fibers.task_of g.F.Fibers.course_of g.F.Fibers.holds g.F.Fibers.asked set c.args.body x) c.in-Take.is (c.requires.wants set is)

pub act-requires-in-Probe-clause-meets : goal.act-requires-in-Probe-clause-meets
act-requires-in-Probe-clause-meets g c κs _ = λ set is. subst (λ (x : Wants _). BodyWants g.F.Fibers.task_of g.F.Fibers.course_of g.F.Fibers.holds g.F.Fibers.asked set c.args.body x) c.in-Probe.is (c.requires.wants set is)

pub start-requires-clause-asks : goal.start-requires-clause-asks
start-requires-clause-asks g c = λ set is. (subst (λ (x : Wants _). BodyWants g.F.Fibers.task_of g.F.Fibers.course_of g.F.Fibers.holds g.F.Fibers.asked set c.args.body x) c.in-Start.is (c.requires.wants set is)).0

pub start-requires-clause-none : goal.start-requires-clause-none
start-requires-clause-none g c = subst (λ (x : Wants _). StartsAtNone g.F.Fibers.count_of x) c.in-Start.is c.requires.none

pub start-requires-clause-course : goal.start-requires-clause-course
start-requires-clause-course g c = let set = c.requires.some.0 in let is = c.requires.some.1 in (subst (λ (x : Wants _). BodyWants g.F.Fibers.task_of g.F.Fibers.course_of g.F.Fibers.holds g.F.Fibers.asked set c.args.body x) c.in-Start.is (c.requires.wants set is)).1

pub start-requires-clause-stands : goal.start-requires-clause-stands
start-requires-clause-stands g c = λ set is. (subst (λ (x : Wants _). BodyWants g.F.Fibers.task_of g.F.Fibers.course_of g.F.Fibers.holds g.F.Fibers.asked set c.args.body x) c.in-Start.is (c.requires.wants set is)).2

pub print-requires : goal.print-requires
print-requires g c = record { asks = λ set is. subst (λ (x : Wants _). BodyWants g.F.Fibers.task_of g.F.Fibers.course_of g.F.Fibers.holds g.F.Fibers.asked set c.args.body x) c.in-Print.is (c.requires.wants set is) }

pub returns-in-Ok-clause-passes : goal.returns-in-Ok-clause-passes
returns-in-Ok-clause-passes g c = keeps_alone c.args.turns.now g.K.Run.of c.args.worker.now (record { passes = c.args.worker.now.passes; own = c.print.new.own }) refl

pub returns-in-Ok-clause-works : goal.returns-in-Ok-clause-works
returns-in-Ok-clause-works g c = works_alone c.args.turns.now g.K.Run.of c.args.worker.now (record { passes = c.args.worker.now.passes; own = c.print.new.own }) refl (items_of (trace_of c.args.body.history)) (items_of (trace_of c.in-Ok.body.history)) c.in-Ok.ensures.made c.requires.works

pub returns-in-Err-clause-passes : goal.returns-in-Err-clause-passes
returns-in-Err-clause-passes g c = keeps_alone c.args.turns.now g.K.Run.of c.args.worker.now (record { passes = c.args.worker.now.passes; own = c.print.new.own }) refl

pub rest_here-requires-clause-stands : goal.rest_here-requires-clause-stands
rest_here-requires-clause-stands g c = λ set is. subst (λ (x : Wants _). BodyWants g.F.Fibers.task_of g.F.Fibers.course_of g.F.Fibers.holds g.F.Fibers.asked set c.args.body x) c.in-Rest.is (c.requires.wants set is)

pub end-requires-clause-ends : goal.end-requires-clause-ends
end-requires-clause-ends g c = λ set is. subst (λ (x : Wants _). BodyWants g.F.Fibers.task_of g.F.Fibers.course_of g.F.Fibers.holds g.F.Fibers.asked set c.args.body x) c.in-End.is (c.requires.wants set is)

pub returns-in-Ok-end-clause-passes : goal.returns-in-Ok-end-clause-passes
returns-in-Ok-end-clause-passes g c = keeps_alone c.args.turns.now g.K.Run.of c.args.worker.now (record { passes = c.args.worker.now.passes; own = c.end.new.own }) refl

pub returns-in-Ok-end-clause-works : goal.returns-in-Ok-end-clause-works
returns-in-Ok-end-clause-works g c = works_alone c.args.turns.now g.K.Run.of c.args.worker.now (record { passes = c.args.worker.now.passes; own = c.end.new.own }) refl (items_of (trace_of c.args.body.history)) [] c.in-Ok-end.ensures.made c.requires.works

pub returns-in-Err-end-clause-passes : goal.returns-in-Err-end-clause-passes
returns-in-Err-end-clause-passes g c = keeps_alone c.args.turns.now g.K.Run.of c.args.worker.now (record { passes = c.args.worker.now.passes; own = c.end.new.own }) refl
