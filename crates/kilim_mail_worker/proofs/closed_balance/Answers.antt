use Rattle.kilim_mail_worker.proofs.Closing as closing
use Rattle.kilim_mail_worker.proofs.closed_balance.Goals as goal

pub returns : goal.returns
returns c = closing.closed_balance
