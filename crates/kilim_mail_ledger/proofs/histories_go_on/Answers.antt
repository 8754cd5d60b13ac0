use Rattle.kilim_mail_ledger.proofs.Goings as goings
use Rattle.kilim_mail_ledger.proofs.histories_go_on.Goals as goal

pub returns : goal.returns
returns c = goings.histories_go_on
