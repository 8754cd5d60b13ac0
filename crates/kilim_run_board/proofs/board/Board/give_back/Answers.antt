use Rattle.std.proofs.Common.{ℕ, ◌<◌, arith, subst, ◌≡◌, true, false, ◌∙◌, sym, refl}
use Rattle.kilim_run_board.specs.waiting.Mailboxes.{mail_of, has_to_wait}
use Rattle.kilim_run_board.specs.Seen.{seen}
use Rattle.kilim_run_board.proofs.Seats.{lent_emptied, seat_there}
use Rattle.kilim_run_board.proofs.Closing.{give_stands}
use Rattle.kilim_run_board.proofs.Boards.{gives_parked, gives_ready, gives_none}
use Rattle.kilim_run_board.proofs.waiting.Lists.{longer}
use Rattle.kilim_run_board.proofs.waiting.Waiting.{behind_longer}
use Rattle.kilim_run_board.proofs.board.Board.give_back.Goals as goal

pub park-requires : goal.park-requires
park-requires g c =
    let r = c.requires.roomy in
    let h = lent_emptied c.args.self.now.cells.items c.args.seat _ c.requires.lent in
    let f = r.fits in let k = r.parked in omega arith

pub line_up-requires : goal.line_up-requires
line_up-requires g c =
    let r = c.requires.roomy in
    let h = lent_emptied c.args.self.now.cells.items c.args.seat _ c.requires.lent in
    let f = r.fits in let k = r.ready in omega arith

pub line_up-requires-in-None : goal.line_up-requires-in-None
line_up-requires-in-None g c =
    let r = c.requires.roomy in
    let h = lent_emptied c.args.self.now.cells.items c.args.seat _ c.requires.lent in
    let f = r.fits in let k = r.ready in omega arith

pub returns-then-has_to_wait-clause-effect : goal.returns-then-has_to_wait-clause-effect
returns-then-has_to_wait-clause-effect g c =
    let has : has_to_wait (mail_of c.args.self.now.mailboxes) c.in-Some.waits ≡ true = sym c.has_to_wait.ensures ∙ c.if-has_to_wait.true in
    gives_parked (seen c.args.self.now) _ c.args.seat c.args.fiber c.args.waits c.in-Some.waits c.in-Some.is has
    (record { run = record { journal = refl; tasks = refl; mails = λ box. refl }; ready = refl; parked = c.park.ensures.items; cells = refl; stopped = refl })

pub returns-then-has_to_wait-clause-roomy : goal.returns-then-has_to_wait-clause-roomy
returns-then-has_to_wait-clause-roomy g c =
    let r = c.requires.roomy in
    let h = lent_emptied c.args.self.now.cells.items c.args.seat _ c.requires.lent in
    let l = behind_longer _ c.args.self.now.parked.items c.park.new.self.items c.park.ensures.items in
    let e = c.park.ensures.room in
    let f = r.fits in let k = r.parked in
    record { fits = omega arith; ready = r.ready; parked = omega arith; few = r.few; counted = r.counted }

pub returns-else-has_to_wait-clause-effect : goal.returns-else-has_to_wait-clause-effect
returns-else-has_to_wait-clause-effect g c =
    let has : has_to_wait (mail_of c.args.self.now.mailboxes) c.in-Some.waits ≡ false = sym c.has_to_wait.ensures ∙ c.if-has_to_wait.false in
    gives_ready (seen c.args.self.now) _ c.args.seat c.args.fiber c.args.waits c.in-Some.waits c.in-Some.is has
    (record { run = record { journal = refl; tasks = refl; mails = λ box. refl }; ready = c.line_up.ensures.items; parked = refl; cells = refl; stopped = refl })

pub returns-else-has_to_wait-clause-roomy : goal.returns-else-has_to_wait-clause-roomy
returns-else-has_to_wait-clause-roomy g c =
    let r = c.requires.roomy in
    let h = lent_emptied c.args.self.now.cells.items c.args.seat _ c.requires.lent in
    let l = longer c.args.self.now.ready.items c.line_up.new.ready.items _ c.line_up.ensures.items in
    let e = c.line_up.ensures.room in
    let f = r.fits in let k = r.ready in
    record { fits = omega arith; ready = omega arith; parked = r.parked; few = r.few; counted = r.counted }

pub returns-in-None-clause-effect : goal.returns-in-None-clause-effect
returns-in-None-clause-effect g c =
    gives_none (seen c.args.self.now) _ c.args.seat c.args.fiber c.args.waits c.in-None.is
    (record { run = record { journal = refl; tasks = refl; mails = λ box. refl }; ready = c.line_up-in-None.ensures.items; parked = refl; cells = refl; stopped = refl })

pub returns-in-None-clause-roomy : goal.returns-in-None-clause-roomy
returns-in-None-clause-roomy g c =
    let r = c.requires.roomy in
    let h = lent_emptied c.args.self.now.cells.items c.args.seat _ c.requires.lent in
    let l = longer c.args.self.now.ready.items c.line_up-in-None.new.ready.items _ c.line_up-in-None.ensures.items in
    let e = c.line_up-in-None.ensures.room in
    let f = r.fits in let k = r.ready in
    record { fits = omega arith; ready = omega arith; parked = r.parked; few = r.few; counted = r.counted }

pub returns-then-has_to_wait-clause-stands : goal.returns-then-has_to_wait-clause-stands
returns-then-has_to_wait-clause-stands g c = λ set st rests at.
    give_stands g.F.Fibers.task_of g.F.Fibers.course_of g.F.Fibers.holds set (seen c.args.self.now) _ c.args.seat c.args.fiber c.args.waits c.requires.lent (returns-then-has_to_wait-clause-effect g c) st rests at

pub returns-else-has_to_wait-clause-stands : goal.returns-else-has_to_wait-clause-stands
returns-else-has_to_wait-clause-stands g c = λ set st rests at.
    give_stands g.F.Fibers.task_of g.F.Fibers.course_of g.F.Fibers.holds set (seen c.args.self.now) _ c.args.seat c.args.fiber c.args.waits c.requires.lent (returns-else-has_to_wait-clause-effect g c) st rests at

pub returns-in-None-clause-stands : goal.returns-in-None-clause-stands
returns-in-None-clause-stands g c = λ set st rests at.
    give_stands g.F.Fibers.task_of g.F.Fibers.course_of g.F.Fibers.holds set (seen c.args.self.now) _ c.args.seat c.args.fiber c.args.waits c.requires.lent (returns-in-None-clause-effect g c) st rests at

pub index_mut-requires : goal.index_mut-requires
index_mut-requires g c = subst (λ (n : ℕ). c.args.seat < n) (sym c.args.self.now.cells.ok.0) (seat_there c.args.self.now.cells.items c.args.seat _ c.requires.lent)
