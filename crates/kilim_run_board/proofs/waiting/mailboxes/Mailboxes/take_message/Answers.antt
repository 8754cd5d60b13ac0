use Rattle.std.proofs.Common.{◌≡◌, ℕ, List, ap, sym, refl, ◌∙◌, rules, Some}
use Rattle.kilim_program.specs.declared.names.BoxName.{BoxName}
use Rattle.kilim_run_model.specs.State.{with_mailbox, with_queue}
use Rattle.kilim_run_board.specs.waiting.Mailboxes.{Tree, Mail, mail_in, mail_of}
use Rattle.kilim_run_board.proofs.waiting.Named.{mails, written, with_itself, mail_is, any_some, same_if_none}
use Rattle.kilim_run_board.proofs.waiting.mailboxes.Mailboxes.take_message.Goals as goal

pub returns-in-Some-clause-mails : goal.returns-in-Some-clause-mails
returns-in-Some-clause-mails c =
    let old = c.in-Some.mailbox.now in
    let new = c.take.new.self in
    let after = c.get_mut.follows.lender c.take.new.self in
    let named : mail_of c.args.self.now c.args.name ≡ mail_in (Some old) = ap mail_in (sym c.in-Some.ensures.value) in
    let updates = (c.get_mut.follows.holds c.take.new.self).3 (search rules) in
    let here : mails after c.args.name ≡ mail_in (Some new) = ap mail_in updates.1 in
    let all : (box : BoxName) → mails after box ≡ with_mailbox (mail_of c.args.self.now) c.args.name (with_queue (mail_of c.args.self.now c.args.name) (mails after c.args.name).queue) box = λ box.
    written c.args.self.now.by_name after c.args.name new (with_queue (mail_in (Some old)) new.queue) updates (mail_is new old.most old.puts new.queue c.take.ensures.most c.take.ensures.puts refl) box
    ∙ (ap (λ (x : Mail). with_mailbox (mail_of c.args.self.now) c.args.name (with_queue x new.queue) box) (sym named)
    ∙ ap (λ (q : List (ℕ × Tree)). with_mailbox (mail_of c.args.self.now) c.args.name (with_queue (mail_of c.args.self.now c.args.name) q) box) (ap (λ (x : Mail). x.queue) (sym here))) in
    any_some c.take.result _ all

pub returns-in-Some-clause-same : goal.returns-in-Some-clause-same
returns-in-Some-clause-same c =
    let old = c.in-Some.mailbox.now in
    let new = c.take.new.self in
    let named : mail_of c.args.self.now c.args.name ≡ mail_in (Some old) = ap mail_in (sym c.in-Some.ensures.value) in
    let updates = (c.get_mut.follows.holds c.take.new.self).3 (search rules) in
    same_if_none c.take.result old.queue new.queue _ c.take.ensures.queue (λ e box.
    written c.args.self.now.by_name (c.get_mut.follows.lender c.take.new.self) c.args.name new (mail_in (Some old)) updates (mail_is new old.most old.puts old.queue c.take.ensures.most c.take.ensures.puts e) box
    ∙ with_itself (mails c.args.self.now.by_name) c.args.name (mail_in (Some old)) named box)
