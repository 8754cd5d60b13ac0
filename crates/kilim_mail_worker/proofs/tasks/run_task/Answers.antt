use Rattle.std.proofs.Common.{subst}
use Rattle.std.specs.Prelude.{Option}
use Rattle.kilim_mail_ready.specs.declared.body.Body.{Body}
use Rattle.kilim_mail_group.specs.Steps.{MaybeStands}
use Rattle.kilim_mail_worker.specs.Turns.{Works, maybe_items}
use Rattle.kilim_mail_worker.proofs.Handing.{has_still, keeps_same, keeps_then}
use Rattle.kilim_mail_worker.proofs.tasks.run_task.Goals as goal

pub loop-init : goal.loop-init
loop-init g c = (keeps_same c.args.turns.now c.args.worker.now, c.requires.works, c.requires.stands)

pub step-requires-clause-has : goal.step-requires-clause-has
step-requires-clause-has g c κs _ = has_still c.args.turns.now c.args.worker.now c.loop.worker c.requires.has c.loop.invariant.0

pub step-requires-clause-works : goal.step-requires-clause-works
step-requires-clause-works g c κs _ = c.loop.invariant.1

pub step-requires-clause-stands : goal.step-requires-clause-stands
step-requires-clause-stands g c κs _ = c.loop.invariant.2

pub loop-preserved : goal.loop-preserved
loop-preserved g c = (
  keeps_then c.args.turns.now c.args.worker.now c.loop.worker c.step.new.worker c.loop.invariant.0 c.step.ensures.passes,
  subst (λ (o : Option (Body _)). Works g.K.Run.of c.args.turns.now c.step.new.worker (maybe_items o)) c.in-Ok-Some.field-0-is c.in-Ok-Some.ensures.works,
  λ set is. subst (λ (o : Option (Body _)). MaybeStands g.F.Fibers.task_of g.F.Fibers.course_of g.F.Fibers.holds g.F.Fibers.asked set o) c.in-Ok-Some.field-0-is (c.in-Ok-Some.ensures.body set is),
)

pub returns-in-Ok-None : goal.returns-in-Ok-None
returns-in-Ok-None g c = record {
  passes = keeps_then c.args.turns.now c.args.worker.now c.loop.worker c.step.new.worker c.loop.invariant.0 c.step.ensures.passes;
  works = subst (λ (o : Option (Body _)). Works g.K.Run.of c.args.turns.now c.step.new.worker (maybe_items o)) c.in-Ok-None.field-0-is c.in-Ok-None.ensures.works;
}

pub returns-in-Err : goal.returns-in-Err
returns-in-Err g c = record {
  passes = keeps_then c.args.turns.now c.args.worker.now c.loop.worker c.step.new.worker c.loop.invariant.0 c.step.ensures.passes;
  works = tt;
}
