use Rattle.std.proofs.Common.{[], ◌∷◌, ap, sym, ◌∙◌, ℕ, ◌++◌, List, None}
use Rattle.kilim_run_model.specs.State.{Mailbox, empty_mailbox, with_mailbox, with_message}
use Rattle.kilim_replay.specs.Mailboxes.{mail_in, mail_of}
use Rattle.kilim_replay.proofs.Named.{written, mail_is}
use Rattle.kilim_replay.proofs.mailboxes.Mailboxes.add.Goals as goal

pub returns-clause-number : goal.returns-clause-number
returns-clause-number c = c.in-Ok.ensures.number ∙ ap (λ (m : Mailbox ℕ). m.puts) (sym (ap mail_in c.requires))

pub returns-clause-mails : goal.returns-clause-mails
returns-clause-mails c = λ box.
    written c.args.self.now.by_name c.insert.new.self c.args.name c.put_in.new.post (with_message empty_mailbox c.args.root) c.in-Ok-insert.ensures.updates
    (mail_is c.put_in.new.post None 1 ((0, c.args.root) ∷ []) c.in-Ok.ensures.most c.in-Ok.ensures.puts (c.in-Ok.ensures.queue ∙ ap (λ (xs : List (ℕ × ℕ)). xs ++ (0, c.args.root) ∷ []) c.new.ensures.items)) box
    ∙ ap (λ (m : Mailbox ℕ). with_mailbox (mail_of c.args.self.now) c.args.name (with_message m c.args.root) box) (sym (ap mail_in c.requires))
