use Rattle.std.proofs.Common.{arith}
use Rattle.kilim_run_board.proofs.Seats.{lent_no_more}
use Rattle.std.proofs.Common.{refl}
use Rattle.kilim_run_board.specs.Seen.{seen}
use Rattle.kilim_run_board.proofs.Calls.{stops_stands}
use Rattle.kilim_run_board.proofs.board.Board.stop.Goals as goal

pub returns-clause-roomy : goal.returns-clause-roomy
returns-clause-roomy g c =
    let r = c.requires.roomy in
    let h = lent_no_more c.args.self.now.cells.items c.args.seat in
    let f = r.fits in
    record { fits = omega arith; ready = r.ready; parked = r.parked; few = r.few; counted = r.counted }

pub returns-clause-stands : goal.returns-clause-stands
returns-clause-stands g c = λ set t lent st.
    stops_stands g.F.Fibers.task_of g.F.Fibers.course_of g.F.Fibers.holds set (seen c.args.self.now) _ c.args.seat t lent
    (record { run = record { journal = refl; tasks = refl; mails = λ box. refl }; ready = refl; parked = refl; cells = refl; stopped = refl }) st
