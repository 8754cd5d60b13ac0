use Rattle.kilim_mail_ledger.proofs.Balances as balances
use Rattle.kilim_mail_ledger.proofs.balanced_runs.Goals as goal

pub returns : goal.returns
returns c = λ set parts traces bal. balances.balanced_runs set parts traces bal
