use Rattle.std.proofs.Common.{◌≡◌, ap, sym, ◌∙◌, rules, Some}
use Rattle.kilim_run_model.specs.State.{bounded, with_mailbox}
use Rattle.kilim_run_board.specs.waiting.Mailboxes.{Mail, mail_in, mail_of}
use Rattle.kilim_run_board.proofs.waiting.Named.{written, mail_is}
use Rattle.kilim_run_board.proofs.waiting.mailboxes.Mailboxes.bound.Goals as goal

pub returns : goal.returns
returns c = λ box.
    let old = c.in-Some.mailbox.now in
    let named : mail_of c.args.self.now c.args.name ≡ mail_in (Some old) = ap mail_in (sym c.in-Some.ensures.value) in
    written c.args.self.now.by_name (c.get_mut.follows.lender c.bound.new.self) c.args.name c.bound.new.self (bounded (mail_in (Some old)) c.args.most) ((c.get_mut.follows.holds c.bound.new.self).3 (search rules))
    (mail_is c.bound.new.self (Some c.args.most) old.puts old.queue c.bound.ensures.most c.bound.ensures.puts c.bound.ensures.queue) box
    ∙ ap (λ (m : Mail). with_mailbox (mail_of c.args.self.now) c.args.name (bounded m c.args.most) box) (sym named)
