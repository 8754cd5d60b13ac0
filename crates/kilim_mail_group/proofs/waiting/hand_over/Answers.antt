use Rattle.std.proofs.Common.{◌≡◌, ℕ, ◌+◌, ◌<◌, arith}
use Rattle.kilim_run_model.specs.declared.waits.Waits.TheVariants as wait
use Rattle.kilim_mail_ledger.specs.Ledger.{items_of}
use Rattle.kilim_mail_notes.specs.Histories.{trace_of}
use Rattle.kilim_mail_group.specs.Group.{SleeperAsks}
use Rattle.kilim_mail_group.proofs.Acting.{woken_stands, woken_then, woken_for, was}
use Rattle.kilim_mail_group.proofs.Serving.{putter_may, putter_none, taker_may}
use Rattle.kilim_mail_group.proofs.waiting.hand_over.Goals as goal

pub take_out-requires-clause-stands : goal.take_out-requires-clause-stands
take_out-requires-clause-stands g c = woken_stands g.F.Fibers.task_of g.F.Fibers.course_of g.F.Fibers.asked g.K.Run.of c.args.seat c.args.boxes.now c.wake_up.new.boxes (wait.Take c.args.name) c.in-Some.waiter c.in-Some.ensures.some c.requires.stands

pub take_out-requires-clause-may : goal.take_out-requires-clause-may
take_out-requires-clause-may g c = λ set is. taker_may g.F.Fibers.task_of g.F.Fibers.course_of g.F.Fibers.asked set c.args.name c.in-Some.waiter.waits c.in-Some.waiter.fiber (woken_for g.F.Fibers.task_of g.F.Fibers.course_of g.F.Fibers.asked g.K.Run.of c.args.seat c.args.boxes.now c.wake_up.new.boxes (wait.Take c.args.name) c.in-Some.waiter c.in-Some.ensures.some) (was g.F.Fibers.task_of g.F.Fibers.course_of g.F.Fibers.asked g.K.Run.of c.args.seat c.args.boxes.now c.wake_up.new.boxes (wait.Take c.args.name) c.in-Some.waiter c.in-Some.ensures.some (λ w. SleeperAsks g.F.Fibers.task_of g.F.Fibers.course_of g.F.Fibers.asked set w.waits w.fiber) (c.requires.stands.asks set is))

pub returns-in-Ok-clause-served : goal.returns-in-Ok-clause-served
returns-in-Ok-clause-served g c = (woken_then g.F.Fibers.task_of g.F.Fibers.course_of g.F.Fibers.asked g.K.Run.of c.args.seat c.args.boxes.now c.wake_up.new.boxes (wait.Take c.args.name) c.in-Some.waiter c.in-Some.ensures.some c.args.name c.take_out.new.boxes (items_of (trace_of c.in-Ok.body.history)) c.in-Ok.ensures.acts, let e = c.in-Some.ensures.some.many in let f = c.in-Ok.ensures.acts.many in omega arith)
