use Rattle.std.proofs.Common.{ap, sym, refl, ◌∙◌, ℕ, [], Some}
use Rattle.kilim_run_model.specs.State.{Mailbox, bounded, empty_mailbox, with_mailbox}
use Rattle.kilim_replay.specs.Mailboxes.{mail_in, mail_of}
use Rattle.kilim_replay.specs.declared.mailboxes.Post.{Post}
use Rattle.kilim_replay.proofs.Named.{written, mail_is}
use Rattle.kilim_replay.proofs.mailboxes.Mailboxes.add_bounded.Goals as goal

pub returns : goal.returns
returns c = λ box.
    let post : Post = record { most = Some c.args.most; puts = 0; queue = c.new.result } in
    written c.args.self.now.by_name c.insert.new.self c.args.name post (bounded empty_mailbox c.args.most) c.in-Ok.ensures.updates (mail_is post (Some c.args.most) 0 [] refl refl c.new.ensures.items) box
    ∙ ap (λ (m : Mailbox ℕ). with_mailbox (mail_of c.args.self.now) c.args.name (bounded m c.args.most) box) (sym (ap mail_in c.requires))
