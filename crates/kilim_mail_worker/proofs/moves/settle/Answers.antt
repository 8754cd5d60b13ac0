use Rattle.std.proofs.Common.{subst, refl}
use Rattle.kilim_mail_ledger.specs.Ledger.{items_of}
use Rattle.kilim_mail_notes.specs.Histories.{trace_of}
use Rattle.kilim_mail_group.specs.declared.boxes.Came.{Came}
use Rattle.kilim_mail_group.specs.Group.{CameStands, bodies_items, came_items}
use Rattle.kilim_mail_worker.specs.Turns.{Works}
use Rattle.kilim_mail_worker.proofs.Handing.{keeps_same, keeps_alone, works_alone, gives_last}
use Rattle.kilim_mail_worker.proofs.Noted.{made_buried}
use Rattle.kilim_mail_worker.proofs.moves.settle.Goals as goal

pub line_up_all-requires-clause-stand : goal.line_up_all-requires-clause-stand
line_up_all-requires-clause-stand g c = λ set is. (subst (λ (x : Came _). CameStands g.F.Fibers.task_of g.F.Fibers.course_of g.F.Fibers.holds g.F.Fibers.asked set x) c.in-Goes.is (c.requires.came set is)).1

pub returns-in-Ok-clause-works : goal.returns-in-Ok-clause-works
returns-in-Ok-clause-works g c = gives_last c.args.turns.now g.K.Run.of c.args.worker.now c.line_up_all.new.worker (items_of (trace_of c.in-Goes.body.history)) (bodies_items c.in-Goes.woken.items) c.in-Ok.ensures.gives (subst (λ (x : Came _). Works g.K.Run.of c.args.turns.now c.args.worker.now (came_items x)) c.in-Goes.is c.requires.works)

pub returns-in-Ok-clause-stands : goal.returns-in-Ok-clause-stands
returns-in-Ok-clause-stands g c = λ set is. (subst (λ (x : Came _). CameStands g.F.Fibers.task_of g.F.Fibers.course_of g.F.Fibers.holds g.F.Fibers.asked set x) c.in-Goes.is (c.requires.came set is)).0

pub returns-in-Over-clause-passes : goal.returns-in-Over-clause-passes
returns-in-Over-clause-passes g c = keeps_alone c.args.turns.now g.K.Run.of c.args.worker.now (record { passes = c.args.worker.now.passes; own = c.bury.new.self }) refl

pub returns-in-Over-clause-works : goal.returns-in-Over-clause-works
returns-in-Over-clause-works g c = works_alone c.args.turns.now g.K.Run.of c.args.worker.now (record { passes = c.args.worker.now.passes; own = c.bury.new.self }) refl _ _
    (made_buried g.K.Run.of c.args.worker.now.own c.bury.new.self (trace_of c.in-Over.body.history) c.bury.ensures.log c.bury.ensures.graves (λ set is. subst (λ (x : Came _). CameStands g.F.Fibers.task_of g.F.Fibers.course_of g.F.Fibers.holds g.F.Fibers.asked set x) c.in-Over.is (c.requires.came set is)))
    (subst (λ (x : Came _). Works g.K.Run.of c.args.turns.now c.args.worker.now (came_items x)) c.in-Over.is c.requires.works)

pub returns-in-Waits-clause-passes : goal.returns-in-Waits-clause-passes
returns-in-Waits-clause-passes g c = keeps_same c.args.turns.now c.args.worker.now

pub returns-in-Waits-clause-works : goal.returns-in-Waits-clause-works
returns-in-Waits-clause-works g c = subst (λ (x : Came _). Works g.K.Run.of c.args.turns.now c.args.worker.now (came_items x)) c.in-Waits.is c.requires.works
