use Rattle.kilim_mail_ledger.proofs.Goings as goings
use Rattle.kilim_mail_ledger.proofs.askers_stand.Goals as goal

pub returns : goal.returns
returns c = goings.askers_stand
