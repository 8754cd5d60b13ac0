use Rattle.std.proofs.Common.{◌≡◌, ◌+◌, ◌++◌, ◌∷◌, [], ap, sym, ◌∙◌, rules, Some}
use Rattle.kilim_run_model.specs.State.{with_mailbox, with_message}
use Rattle.kilim_run_board.specs.waiting.Mailboxes.{Mail, mail_in, mail_of}
use Rattle.kilim_run_board.proofs.waiting.Named.{written, mail_is}
use Rattle.kilim_run_board.proofs.waiting.mailboxes.Mailboxes.put_message.Goals as goal

pub returns-clause-mails : goal.returns-clause-mails
returns-clause-mails c = λ box.
    let old = c.in-Some.mailbox.now in
    let named : mail_of c.args.self.now c.args.name ≡ mail_in (Some old) = ap mail_in (sym c.in-Some.ensures.value) in
    written c.args.self.now.by_name (c.get_mut.follows.lender c.put.new.self) c.args.name c.put.new.self (with_message (mail_in (Some old)) c.args.tree) ((c.get_mut.follows.holds c.put.new.self).3 (search rules))
    (mail_is c.put.new.self old.most (old.puts + 1) (old.queue ++ (old.puts, c.args.tree) ∷ []) c.put.ensures.most c.put.ensures.puts c.put.ensures.queue) box
    ∙ ap (λ (m : Mail). with_mailbox (mail_of c.args.self.now) c.args.name (with_message m c.args.tree) box) (sym named)
