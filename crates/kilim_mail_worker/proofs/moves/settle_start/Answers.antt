use Rattle.std.proofs.Common.{◌++◌, subst, refl}
use Rattle.kilim_mail_ledger.specs.Ledger.{items_of}
use Rattle.kilim_mail_notes.specs.declared.histories.History.{History}
use Rattle.kilim_mail_notes.specs.Histories.{trace_of}
use Rattle.kilim_mail_register.specs.declared.register.Started.{Started}
use Rattle.kilim_mail_register.specs.Register.{born_of}
use Rattle.kilim_mail_worker.specs.Turns.{Works, GivesAway, IsBirth, StartedStands}
use Rattle.kilim_mail_worker.proofs.Handing.{keeps_alone, works_alone, works_none, gives_last}
use Rattle.kilim_mail_worker.proofs.Noted.{made_buried}
use Rattle.kilim_mail_worker.proofs.moves.settle_start.Goals as goal

pub born-requires-clause-history : goal.born-requires-clause-history
born-requires-clause-history g c = subst (λ (x : Started). IsBirth (g.F.Fibers.course_of c.args.new).beginning x) c.in-Task.is c.requires.birth

pub returns-in-Ok-clause-works : goal.returns-in-Ok-clause-works
returns-in-Ok-clause-works g c = gives_last c.args.turns.now g.K.Run.of c.args.worker.now c.line_up.new.worker (items_of (trace_of c.args.body.history)) (items_of (trace_of c.in-Task.history))
    (subst (λ (h : History). GivesAway g.K.Run.of c.args.turns.now c.args.worker.now c.line_up.new.worker (items_of (trace_of h))) c.born.ensures.history c.in-Ok.ensures.gives) (subst (λ (x : Started). Works g.K.Run.of c.args.turns.now c.args.worker.now (items_of (trace_of c.args.body.history) ++ born_of x)) c.in-Task.is c.requires.works)

pub returns-in-Ok-clause-body : goal.returns-in-Ok-clause-body
returns-in-Ok-clause-body g c = λ set is. subst (λ (x : Started). StartedStands g.F.Fibers.task_of g.F.Fibers.course_of g.F.Fibers.holds g.F.Fibers.asked set c.args.body x) c.in-Task.is (c.requires.started set is)

pub returns-clause-passes : goal.returns-clause-passes
returns-clause-passes g c = keeps_alone c.args.turns.now g.K.Run.of c.args.worker.now (record { passes = c.args.worker.now.passes; own = c.bury.new.self }) refl

pub returns-clause-works : goal.returns-clause-works
returns-clause-works g c = works_alone c.args.turns.now g.K.Run.of c.args.worker.now (record { passes = c.args.worker.now.passes; own = c.bury.new.self }) refl _ _
    (made_buried g.K.Run.of c.args.worker.now.own c.bury.new.self (trace_of c.args.body.history) c.bury.ensures.log c.bury.ensures.graves (λ set is. subst (λ (x : Started). StartedStands g.F.Fibers.task_of g.F.Fibers.course_of g.F.Fibers.holds g.F.Fibers.asked set c.args.body x) c.in-OutOfTasks.is (c.requires.started set is)))
    (works_none c.args.turns.now g.K.Run.of c.args.worker.now (items_of (trace_of c.args.body.history)) (subst (λ (x : Started). Works g.K.Run.of c.args.turns.now c.args.worker.now (items_of (trace_of c.args.body.history) ++ born_of x)) c.in-OutOfTasks.is c.requires.works))
