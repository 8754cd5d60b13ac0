use Rattle.std.proofs.Common.{None, [], ap, ◌∙◌}
use Rattle.kilim_run_board.specs.waiting.Mailboxes.{mail_in}
use Rattle.kilim_run_board.proofs.waiting.Named.{mails, written, with_itself, mail_is}
use Rattle.kilim_run_board.proofs.waiting.mailboxes.Mailboxes.add.Goals as goal

pub returns-clause-same : goal.returns-clause-same
returns-clause-same c = λ box.
    written c.args.self.now.by_name c.insert.new.self c.args.name c.reserve.new.self (record { most = None; puts = 0; queue = [] }) c.in-Ok-insert.ensures.updates
    (mail_is c.reserve.new.self None 0 [] (c.reserve.ensures.most ∙ c.new-mailbox.ensures.most) (c.reserve.ensures.puts ∙ c.new-mailbox.ensures.puts) (c.reserve.ensures.queue ∙ c.new-mailbox.ensures.queue)) box
    ∙ with_itself (mails c.args.self.now.by_name) c.args.name (record { most = None; puts = 0; queue = [] }) (ap mail_in c.requires) box
