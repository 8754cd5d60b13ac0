use Rattle.std.proofs.Common.{refl}
use Rattle.kilim_mail_ready.proofs.Queues.{same_stands, first_stands, others_stand}
use Rattle.kilim_mail_ready.proofs.ready.lend_next.Goals as goal

pub returns-in-Some-clause-queue : goal.returns-in-Some-clause-queue
returns-in-Some-clause-queue g c = λ old. others_stand g.F.Fibers.task_of g.F.Fibers.course_of g.F.Fibers.holds g.F.Fibers.asked g.K.Run.of c.args.seat (record { ledger = c.args.queue.now.ledger; bodies = c.args.queue.now.bodies; lent = c.mark.new.lent; stopped = c.args.queue.now.stopped }) c.take_first.new.queue (record { ledger = c.take_first.new.queue.ledger; bodies = c.take_first.new.queue.bodies; lent = c.mark-in-Some.new.lent; stopped = c.take_first.new.queue.stopped }) c.in-Some.body c.in-Some.ensures.some refl refl (same_stands g.F.Fibers.task_of g.F.Fibers.course_of g.F.Fibers.holds g.F.Fibers.asked g.K.Run.of c.args.queue.now (record { ledger = c.args.queue.now.ledger; bodies = c.args.queue.now.bodies; lent = c.mark.new.lent; stopped = c.args.queue.now.stopped }) refl refl old)

pub returns-in-Some-clause-stands : goal.returns-in-Some-clause-stands
returns-in-Some-clause-stands g c = λ old. first_stands g.F.Fibers.task_of g.F.Fibers.course_of g.F.Fibers.holds g.F.Fibers.asked g.K.Run.of c.args.seat (record { ledger = c.args.queue.now.ledger; bodies = c.args.queue.now.bodies; lent = c.mark.new.lent; stopped = c.args.queue.now.stopped }) c.take_first.new.queue c.in-Some.body c.in-Some.ensures.some (same_stands g.F.Fibers.task_of g.F.Fibers.course_of g.F.Fibers.holds g.F.Fibers.asked g.K.Run.of c.args.queue.now (record { ledger = c.args.queue.now.ledger; bodies = c.args.queue.now.bodies; lent = c.mark.new.lent; stopped = c.args.queue.now.stopped }) refl refl old)
