use Rattle.std.proofs.Common.{ℕ, ◌<◌, arith, length, refl, sym, subst}
use Rattle.kilim_run_board.proofs.Seats.{lent_no_more, seat_there}
use Rattle.kilim_run_board.specs.waiting.Mailboxes.{mail_of}
use Rattle.kilim_run_board.proofs.waiting.Named.{counted_same}
use Rattle.kilim_run_board.proofs.waiting.Lists.{longer}
use Rattle.kilim_run_board.proofs.board.Board.end.Goals as goal

pub returns-clause-roomy : goal.returns-clause-roomy
returns-clause-roomy g c =
    let r = c.requires.roomy in
    let h = lent_no_more c.args.self.now.cells.items c.args.seat in
    let f = r.fits in
    let l = longer c.args.self.now.journal.items c.note.new.journal.items _ c.note.ensures in
    record { fits = omega arith; ready = r.ready; parked = r.parked; few = r.few; counted = counted_same (mail_of c.args.self.now.mailboxes) (mail_of c.args.self.now.mailboxes) (length c.args.self.now.journal.items) (length c.note.new.journal.items) r.counted (λ box. refl) (omega arith) }

pub returns-clause-effect : goal.returns-clause-effect
returns-clause-effect g c = record { journal = c.note.ensures; tasks = refl; mails = λ box. refl; ready = refl; parked = refl; cells = refl; stopped = refl }

pub index_mut-requires : goal.index_mut-requires
index_mut-requires g c = subst (λ (n : ℕ). c.args.seat < n) (sym c.args.self.now.cells.ok.0) (seat_there c.args.self.now.cells.items c.args.seat _ c.requires.lent)
