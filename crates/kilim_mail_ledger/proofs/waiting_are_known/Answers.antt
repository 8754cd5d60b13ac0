use Rattle.kilim_mail_ledger.proofs.Mailboxes as mailboxes
use Rattle.kilim_mail_ledger.proofs.waiting_are_known.Goals as goal

pub returns : goal.returns
returns c = mailboxes.waiting_are_known
