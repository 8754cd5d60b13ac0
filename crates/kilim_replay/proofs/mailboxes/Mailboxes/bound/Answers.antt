use Rattle.std.proofs.Common.{◌≡◌, ℕ, Some, ap, sym, ◌∙◌, rules}
use Rattle.kilim_run_model.specs.State.{Mailbox, bounded, with_mailbox}
use Rattle.kilim_replay.specs.Mailboxes.{mail_in, mail_of}
use Rattle.kilim_replay.proofs.Named.{written, mail_is}
use Rattle.kilim_replay.proofs.mailboxes.Mailboxes.bound.Goals as goal

pub returns-in-Some : goal.returns-in-Some
returns-in-Some c = λ box.
    let old = c.in-Some.post.now in
    let new = c.bound_in.new.post in
    let named : mail_of c.args.self.now c.args.name ≡ mail_in (Some old) = ap mail_in (sym c.in-Some.ensures.value) in
    written c.args.self.now.by_name (c.get_mut.follows.lender new) c.args.name new (bounded (mail_in (Some old)) c.args.most) ((c.get_mut.follows.holds new).3 (search rules))
    (mail_is new (Some c.args.most) old.puts old.queue.items c.bound_in.ensures.most c.bound_in.ensures.puts c.bound_in.ensures.queue) box
    ∙ ap (λ (m : Mailbox ℕ). with_mailbox (mail_of c.args.self.now) c.args.name (bounded m c.args.most) box) (sym named)
