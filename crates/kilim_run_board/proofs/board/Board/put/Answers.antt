use Rattle.std.proofs.Common.{arith, length}
use Rattle.kilim_run_board.specs.waiting.Mailboxes.{mail_of}
use Rattle.kilim_run_board.proofs.waiting.Named.{counted_put}
use Rattle.kilim_run_board.proofs.waiting.Lists.{longer}
use Rattle.kilim_run_board.proofs.board.Board.put.Goals as goal

pub put_message-number-requires-clause-few : goal.put_message-number-requires-clause-few
put_message-number-requires-clause-few g c =
    let a = c.requires.roomy.counted c.args.mailbox in
    let ok = c.args.self.now.journal.ok in let small = c.args.self.now.journal.small in
    let j = c.requires.journal in omega arith

pub returns-clause-roomy : goal.returns-clause-roomy
returns-clause-roomy g c =
    let r = c.requires.roomy in
    let l = longer c.args.self.now.journal.items c.note.new.journal.items _ c.note.ensures in
    let w = c.wake.ensures in
    let f = r.fits in let k = r.ready in let m = r.parked in
    record {
      fits = omega arith;
      ready = omega arith;
      parked = omega arith;
      few = r.few;
      counted = counted_put (mail_of c.args.self.now.mailboxes) (mail_of c.put_message-number.new.self) c.args.mailbox c.args.tree (length c.args.self.now.journal.items) (length c.note.new.journal.items) r.counted c.put_message-number.ensures.mails l;
    }
