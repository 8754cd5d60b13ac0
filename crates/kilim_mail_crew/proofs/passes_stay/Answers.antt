use Rattle.kilim_mail_crew.proofs.Passes as passes
use Rattle.kilim_mail_crew.proofs.passes_stay.Goals as goal

pub returns : goal.returns
returns c = passes.passes_stay
