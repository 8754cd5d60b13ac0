use Rattle.std.proofs.Common.{◌≡◌, ℕ, List, ap, sym, refl, ◌∙◌, rules, Some}
use Rattle.kilim_program.specs.declared.names.BoxName.{BoxName}
use Rattle.kilim_run_model.specs.State.{Mailbox, with_mailbox, with_queue}
use Rattle.kilim_replay.specs.Mailboxes.{mail_in, mail_of}
use Rattle.kilim_replay.proofs.Named.{mails, written, with_itself, mail_is, any_some, same_if_none}
use Rattle.kilim_replay.proofs.mailboxes.Mailboxes.take.Goals as goal

pub returns-in-Some-clause-mails : goal.returns-in-Some-clause-mails
returns-in-Some-clause-mails c =
    let old = c.in-Some.post.now in
    let new = c.take_from.new.post in
    let after = c.get_mut.follows.lender c.take_from.new.post in
    let named : mail_of c.args.self.now c.args.name ≡ mail_in (Some old) = ap mail_in (sym c.in-Some.ensures.value) in
    let updates = (c.get_mut.follows.holds c.take_from.new.post).3 (search rules) in
    let here : mails after c.args.name ≡ mail_in (Some new) = ap mail_in updates.1 in
    let all : (box : BoxName) → mails after box ≡ with_mailbox (mail_of c.args.self.now) c.args.name (with_queue (mail_of c.args.self.now c.args.name) (mails after c.args.name).queue) box = λ box.
    written c.args.self.now.by_name after c.args.name new (with_queue (mail_in (Some old)) new.queue.items) updates (mail_is new old.most old.puts new.queue.items c.take_from.ensures.most c.take_from.ensures.puts refl) box
    ∙ (ap (λ (x : Mailbox ℕ). with_mailbox (mail_of c.args.self.now) c.args.name (with_queue x new.queue.items) box) (sym named)
    ∙ ap (λ (q : List (ℕ × ℕ)). with_mailbox (mail_of c.args.self.now) c.args.name (with_queue (mail_of c.args.self.now c.args.name) q) box) (ap (λ (x : Mailbox ℕ). x.queue) (sym here))) in
    any_some c.take_from.result _ all

pub returns-in-Some-clause-same : goal.returns-in-Some-clause-same
returns-in-Some-clause-same c =
    let old = c.in-Some.post.now in
    let new = c.take_from.new.post in
    let named : mail_of c.args.self.now c.args.name ≡ mail_in (Some old) = ap mail_in (sym c.in-Some.ensures.value) in
    let updates = (c.get_mut.follows.holds c.take_from.new.post).3 (search rules) in
    same_if_none c.take_from.result old.queue.items new.queue.items _ c.take_from.ensures.queue (λ e box.
    written c.args.self.now.by_name (c.get_mut.follows.lender c.take_from.new.post) c.args.name new (mail_in (Some old)) updates (mail_is new old.most old.puts old.queue.items c.take_from.ensures.most c.take_from.ensures.puts e) box
    ∙ with_itself (mails c.args.self.now.by_name) c.args.name (mail_in (Some old)) named box)
