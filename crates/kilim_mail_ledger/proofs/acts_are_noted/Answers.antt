use Rattle.kilim_mail_ledger.proofs.Mailboxes as mailboxes
use Rattle.kilim_mail_ledger.proofs.acts_are_noted.Goals as goal

pub returns : goal.returns
returns c = mailboxes.acts_are_noted
