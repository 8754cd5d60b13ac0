use Rattle.std.proofs.Common.{arith, length, ap}
use Rattle.kilim_run_board.proofs.Seats.{lent_filled}
use Rattle.std.proofs.Common.{refl, Some}
use Rattle.std.specs.Prelude.{slice_set}
use Rattle.kilim_run_board.specs.Seen.{seen}
use Rattle.kilim_run_board.specs.waiting.Mailboxes.{mail_of}
use Rattle.kilim_run_board.proofs.Calls.{lend_stands}
use Rattle.kilim_run_board.proofs.board.Board.lend.Goals as goal

pub returns-in-Some-clause-roomy : goal.returns-in-Some-clause-roomy
returns-in-Some-clause-roomy g c =
    let r = c.requires.roomy in
    let h = lent_filled c.args.self.now.cells.items c.args.seat c.task.result c.requires.free in
    let e = c.in-Some.ensures.items in
    let l = ap length e in
    let k = c.pop_front.ensures.capacity in
    let f = r.fits in let m = r.ready in
    record { fits = omega arith; ready = omega arith; parked = r.parked; few = r.few; counted = r.counted }

pub returns-in-Some-clause-stands : goal.returns-in-Some-clause-stands
returns-in-Some-clause-stands g c = λ set st.
    let h = lend_stands g.F.Fibers.task_of g.F.Fibers.course_of g.F.Fibers.holds set (seen c.args.self.now)
    (record { journal = c.args.self.now.journal.items; tasks = c.args.self.now.tasks; ready = c.pop_front.new.self.items; parked = c.args.self.now.parked.items; cells = slice_set c.args.self.now.cells.items c.args.seat (Some c.task.result); mails = mail_of c.args.self.now.mailboxes; stopped = c.args.self.now.stopped })
    c.args.seat c.in-Some.fiber c.requires.free
    (record { run = record { journal = refl; tasks = refl; mails = λ box. refl }; ready = c.in-Some.ensures.items; parked = refl; cells = ap (λ t. slice_set c.args.self.now.cells.items c.args.seat (Some t)) c.task.ensures; stopped = refl }) st in
    (h.0, (h.1, h.2))
