use Rattle.kilim_mail_ledger.proofs.Shapes as shapes
use Rattle.kilim_mail_ledger.proofs.items_stay.Goals as goal

pub returns : goal.returns
returns c = shapes.items_of_log_stay
