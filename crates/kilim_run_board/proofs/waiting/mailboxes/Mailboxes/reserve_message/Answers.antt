use Rattle.std.proofs.Common.{◌≡◌, ap, sym, ◌∙◌, rules, Some}
use Rattle.kilim_run_board.specs.waiting.Mailboxes.{mail_in, mail_of}
use Rattle.kilim_run_board.proofs.waiting.Named.{mails, written, with_itself, mail_is}
use Rattle.kilim_run_board.proofs.waiting.mailboxes.Mailboxes.reserve_message.Goals as goal

pub returns-in-Some-clause-same : goal.returns-in-Some-clause-same
returns-in-Some-clause-same c = λ box.
    let old = c.in-Some.mailbox.now in
    let named : mail_of c.args.self.now c.args.name ≡ mail_in (Some old) = ap mail_in (sym c.in-Some.ensures.value) in
    written c.args.self.now.by_name (c.get_mut.follows.lender c.reserve.new.self) c.args.name c.reserve.new.self (mail_in (Some old)) ((c.get_mut.follows.holds c.reserve.new.self).3 (search rules))
    (mail_is c.reserve.new.self old.most old.puts old.queue c.reserve.ensures.most c.reserve.ensures.puts c.reserve.ensures.queue) box
    ∙ with_itself (mails c.args.self.now.by_name) c.args.name (mail_in (Some old)) named box
