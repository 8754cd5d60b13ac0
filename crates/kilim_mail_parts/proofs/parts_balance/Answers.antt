use Rattle.kilim_mail_parts.proofs.Parts as parts
use Rattle.kilim_mail_parts.proofs.parts_balance.Goals as goal

pub returns : goal.returns
returns c = parts.parts_balance
