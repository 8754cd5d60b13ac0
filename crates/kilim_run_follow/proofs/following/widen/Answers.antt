use Rattle.std.proofs.Common.{◌≡◌, ℕ, List, Option, length, refl, ap, ◌∙◌, arith}
use Rattle.kilim_run_board.specs.Board.{lent_of}
use Rattle.kilim_run_board.specs.Seen.{seen}
use Rattle.kilim_run_follow.specs.Lending.{Widens}
use Rattle.kilim_run_follow.proofs.Orders.{more_empty, none_lent, widened}
use Rattle.kilim_run_follow.proofs.following.widen.Goals as goal

pub returns-in-Ok-clause-stands : goal.returns-in-Ok-clause-stands
returns-in-Ok-clause-stands g c = λ set st.
    let cells = more_empty c.args.seats c.args.board.now.cells.len c.args.board.now.cells.items c.resize.new.self.items c.requires.free c.args.board.now.cells.ok.0 c.requires.some c.in-Ok.ensures.items in
    let wide : Widens (seen c.args.board.now) _ c.args.seats = record { run = record { journal = refl; tasks = refl; mails = λ box. refl }; ready = refl; parked = refl; cells = cells; stopped = refl } in
    widened g.F.Fibers.task_of g.F.Fibers.course_of g.F.Fibers.holds set (seen c.args.board.now) _ c.args.seats c.requires.free wide st

pub returns-in-Ok-clause-roomy : goal.returns-in-Ok-clause-roomy
returns-in-Ok-clause-roomy g c =
    let cells = more_empty c.args.seats c.args.board.now.cells.len c.args.board.now.cells.items c.resize.new.self.items c.requires.free c.args.board.now.cells.ok.0 c.requires.some c.in-Ok.ensures.items in
    let none : length (lent_of c.resize.new.self.items) ≡ 0 = ap (λ (cs : List (Option ℕ)). length (lent_of cs)) cells ∙ ap length (none_lent c.args.seats) in
    let fits = c.requires.roomy.fits in
    record { fits = omega (arith, none, fits); ready = c.requires.roomy.ready; parked = c.requires.roomy.parked; few = c.requires.roomy.few; counted = c.requires.roomy.counted }
