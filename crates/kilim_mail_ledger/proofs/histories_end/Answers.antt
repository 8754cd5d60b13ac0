use Rattle.kilim_mail_ledger.proofs.Goings as goings
use Rattle.kilim_mail_ledger.proofs.histories_end.Goals as goal

pub returns : goal.returns
returns c = goings.histories_end
