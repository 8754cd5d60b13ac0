use Rattle.std.proofs.Common.{◌≡◌, ◌+◌, ◌++◌, ◌∷◌, [], ℕ, ap, sym, ◌∙◌, rules, Some}
use Rattle.kilim_run_model.specs.State.{Mailbox, with_mailbox, with_message}
use Rattle.kilim_replay.specs.Mailboxes.{mail_in, mail_of}
use Rattle.kilim_replay.proofs.Named.{on_three, written, mail_is}
use Rattle.kilim_replay.proofs.mailboxes.Mailboxes.put.Goals as goal

pub returns-in-Some-clause-mails : goal.returns-in-Some-clause-mails
returns-in-Some-clause-mails c =
    let old = c.in-Some.post.now in
    let named : mail_of c.args.self.now c.args.name ≡ mail_in (Some old) = ap mail_in (sym c.in-Some.ensures.value) in
    on_three c.put_in.result _ _ _ _ c.put_in.ensures.most c.put_in.ensures.puts c.put_in.ensures.queue (λ most puts queue box.
    written c.args.self.now.by_name (c.get_mut.follows.lender c.put_in.new.post) c.args.name c.put_in.new.post (with_message (mail_in (Some old)) c.args.root) ((c.get_mut.follows.holds c.put_in.new.post).3 (search rules))
    (mail_is c.put_in.new.post old.most (old.puts + 1) (old.queue.items ++ (old.puts, c.args.root) ∷ []) most puts queue) box
    ∙ ap (λ (m : Mailbox ℕ). with_mailbox (mail_of c.args.self.now) c.args.name (with_message m c.args.root) box) (sym named))
