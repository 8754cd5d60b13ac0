use Rattle.std.proofs.Common.{arith, length, refl}
use Rattle.kilim_run_board.specs.waiting.Mailboxes.{mail_of}
use Rattle.kilim_run_board.proofs.waiting.Named.{counted_same}
use Rattle.kilim_run_board.proofs.waiting.Lists.{longer}
use Rattle.kilim_run_board.proofs.board.Board.start.Goals as goal

pub returns-clause-effect : goal.returns-clause-effect
returns-clause-effect g c = record { journal = c.note.ensures; tasks = refl; mails = λ box. refl; ready = c.line_up.ensures.items; parked = refl; cells = refl; stopped = refl }

pub returns-clause-roomy : goal.returns-clause-roomy
returns-clause-roomy g c =
    let r = c.requires.roomy in
    let l = longer c.args.self.now.ready.items c.line_up.new.ready.items _ c.line_up.ensures.items in
    let e = c.line_up.ensures.room in
    let n = longer c.args.self.now.journal.items c.note.new.journal.items _ c.note.ensures in
    let f = r.fits in let k = c.requires.ready in let m = c.requires.few in
    record { fits = omega arith; ready = omega arith; parked = c.requires.parked; few = omega arith; counted = counted_same (mail_of c.args.self.now.mailboxes) (mail_of c.args.self.now.mailboxes) (length c.args.self.now.journal.items) (length c.note.new.journal.items) r.counted (λ box. refl) (omega arith) }
