use Rattle.std.proofs.Common.{arith, length, refl}
use Rattle.kilim_run_board.specs.waiting.Mailboxes.{mail_of}
use Rattle.kilim_run_board.proofs.waiting.Named.{counted_bound}
use Rattle.kilim_run_board.proofs.waiting.Lists.{longer}
use Rattle.kilim_run_board.proofs.board.Board.bound.Goals as goal

pub returns-clause-effect : goal.returns-clause-effect
returns-clause-effect g c = record { journal = c.note.ensures; tasks = refl; mails = c.bound.ensures; spots = record { ready = refl; parked = refl; cells = refl; stopped = refl } }

pub returns-clause-roomy : goal.returns-clause-roomy
returns-clause-roomy g c =
    let r = c.requires.roomy in
    let l = longer c.args.self.now.journal.items c.note.new.journal.items _ c.note.ensures in
    record {
      fits = r.fits;
      ready = r.ready;
      parked = r.parked;
      few = r.few;
      counted = counted_bound (mail_of c.args.self.now.mailboxes) (mail_of c.bound.new.self) c.args.mailbox c.args.most (length c.args.self.now.journal.items) (length c.note.new.journal.items) r.counted c.bound.ensures (omega arith);
    }
