use Rattle.std.proofs.Common.{List, ap, sym, subst, ◌∙◌}
use Rattle.std.specs.List.{AllByRecursion}
use Rattle.kilim_mail_ledger.specs.Ledger.{items_of}
use Rattle.kilim_mail_notes.specs.Histories.{trace_of}
use Rattle.kilim_mail_ready.specs.declared.body.Body.{Body}
use Rattle.kilim_mail_ready.specs.Ready.{BodyStands}
use Rattle.kilim_mail_group.specs.Group.{bodies_items}
use Rattle.kilim_mail_worker.proofs.Handing.{none_left, has_still, keeps_then, giving_first, giving_on, giving_last}
use Rattle.kilim_mail_worker.proofs.moves.line_up_all.Goals as goal

pub loop-body-init : goal.loop-body-init
loop-body-init g c = (
  giving_first c.args.turns.now g.K.Run.of c.args.worker.now (bodies_items c.args.bodies.items) (bodies_items c.into_iter-body-iterator.result.rest.items) (ap bodies_items (sym c.into_iter-body-iterator.ensures.into_iter_gives.0)),
  λ set is. subst (λ (bs : List (Body _)). AllByRecursion (BodyStands g.F.Fibers.task_of g.F.Fibers.course_of g.F.Fibers.holds g.F.Fibers.asked set) bs) (sym c.into_iter-body-iterator.ensures.into_iter_gives.0) (c.requires.stand set is),
)

pub line_up-requires-clause-has : goal.line_up-requires-clause-has
line_up-requires-clause-has g c = has_still c.args.turns.now c.args.worker.now c.loop-body.worker c.requires.has c.loop-body.invariant.0.keeps

pub line_up-requires-clause-stands : goal.line_up-requires-clause-stands
line_up-requires-clause-stands g c = λ set is. (subst (λ (bs : List (Body _)). AllByRecursion (BodyStands g.F.Fibers.task_of g.F.Fibers.course_of g.F.Fibers.holds g.F.Fibers.asked set) bs) c.in-Some.ensures.steps.0 (c.loop-body.invariant.1 set is)).0

pub loop-body-preserved : goal.loop-body-preserved
loop-body-preserved g c = (
  giving_on c.args.turns.now g.K.Run.of c.args.worker.now c.loop-body.worker c.line_up.new.worker (bodies_items c.args.bodies.items) (bodies_items c.loop-body.body-iterator.rest.items) (items_of (trace_of c.in-Some.body.history)) (bodies_items c.next.new.self.rest.items)
      c.loop-body.invariant.0 (ap bodies_items c.in-Some.ensures.steps.0) c.line_up.ensures.passes c.in-Ok.ensures.gives,
  λ set is. (subst (λ (bs : List (Body _)). AllByRecursion (BodyStands g.F.Fibers.task_of g.F.Fibers.course_of g.F.Fibers.holds g.F.Fibers.asked set) bs) c.in-Some.ensures.steps.0 (c.loop-body.invariant.1 set is)).1,
)

pub returns-in-Err-clause-passes : goal.returns-in-Err-clause-passes
returns-in-Err-clause-passes g c = keeps_then c.args.turns.now c.args.worker.now c.loop-body.worker c.line_up.new.worker c.loop-body.invariant.0.keeps c.line_up.ensures.passes

pub returns-clause-passes : goal.returns-clause-passes
returns-clause-passes g c = c.loop-body.invariant.0.keeps

pub returns-clause-gives : goal.returns-clause-gives
returns-clause-gives g c = giving_last c.args.turns.now g.K.Run.of c.args.worker.now c.loop-body.worker (bodies_items c.args.bodies.items) (bodies_items c.loop-body.body-iterator.rest.items)
    (none_left c.loop-body.body-iterator.rest.items (sym c.loop-body.body-iterator.rest.ok.0 ∙ c.in-None.ensures.steps.0)) c.loop-body.invariant.0
