use Rattle.std.proofs.Common.{arith, length, ◌≡◌, ◌∷◌, subst, refl}
use Rattle.std.specs.Prelude.{IfSome, IfNone}
use Rattle.kilim_run_model.specs.State.{with_mailbox, with_queue}
use Rattle.kilim_run_board.specs.waiting.Mailboxes.{SameMails, mail_of}
use Rattle.kilim_run_board.proofs.waiting.Named.{counted_took, counted_same}
use Rattle.kilim_run_board.proofs.waiting.Lists.{longer}
use Rattle.kilim_run_board.proofs.board.Board.take.Goals as goal

pub returns-in-Some-clause-effect : goal.returns-in-Some-clause-effect
returns-in-Some-clause-effect g c = (
  (mail_of c.take_message.new.self c.args.mailbox).queue,
  record {
    journal = c.note.ensures;
    tasks = refl;
    queue = subst (λ o. IfSome o (λ m. (mail_of c.args.self.now.mailboxes c.args.mailbox).queue ≡ m ∷ (mail_of c.take_message.new.self c.args.mailbox).queue)) c.in-Some.is c.take_message.ensures.some;
    mails = subst (λ o. IfSome o (λ _. SameMails (with_mailbox (mail_of c.args.self.now.mailboxes) c.args.mailbox (with_queue (mail_of c.args.self.now.mailboxes c.args.mailbox) (mail_of c.take_message.new.self c.args.mailbox).queue)) (mail_of c.take_message.new.self))) c.in-Some.is c.take_message.ensures.mails;
    ready = c.wake.ensures.ready;
    parked = c.wake.ensures.parked;
    cells = refl;
    stopped = refl;
  },
)

pub returns-in-Some-clause-roomy : goal.returns-in-Some-clause-roomy
returns-in-Some-clause-roomy g c =
    let r = c.requires.roomy in
    let l = longer c.args.self.now.journal.items c.note.new.journal.items _ c.note.ensures in
    let w = c.wake.ensures in
    let f = r.fits in let k = r.ready in let m = r.parked in
    record {
      fits = omega arith;
      ready = omega arith;
      parked = omega arith;
      few = r.few;
      counted = counted_took (mail_of c.args.self.now.mailboxes) (mail_of c.take_message.new.self) c.args.mailbox (mail_of c.take_message.new.self c.args.mailbox).queue (length c.args.self.now.journal.items) (length c.note.new.journal.items) r.counted
          (subst (λ o. IfSome o (λ _. SameMails (with_mailbox (mail_of c.args.self.now.mailboxes) c.args.mailbox (with_queue (mail_of c.args.self.now.mailboxes c.args.mailbox) (mail_of c.take_message.new.self c.args.mailbox).queue)) (mail_of c.take_message.new.self))) c.in-Some.is c.take_message.ensures.mails) (omega arith);
    }

pub returns-in-None-clause-roomy : goal.returns-in-None-clause-roomy
returns-in-None-clause-roomy g c =
    let r = c.requires.roomy in
    record {
      fits = r.fits;
      ready = r.ready;
      parked = r.parked;
      few = r.few;
      counted = counted_same (mail_of c.args.self.now.mailboxes) (mail_of c.take_message.new.self) (length c.args.self.now.journal.items) (length c.args.self.now.journal.items) r.counted
          (subst (λ o. IfNone o (SameMails (mail_of c.args.self.now.mailboxes) (mail_of c.take_message.new.self))) c.in-None.is c.take_message.ensures.same) (omega arith);
    }
