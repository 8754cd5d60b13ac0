use Rattle.kilim_mail_ledger.proofs.Rests as rests
use Rattle.kilim_mail_ledger.proofs.closed_runs.Goals as goal

pub returns : goal.returns
returns c = λ set parts traces waits journal bal resting merged. rests.closed_runs set parts traces waits journal bal resting merged
