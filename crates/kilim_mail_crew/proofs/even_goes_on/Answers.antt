use Rattle.kilim_mail_crew.proofs.Passes as passes
use Rattle.kilim_mail_crew.proofs.even_goes_on.Goals as goal

pub returns : goal.returns
returns c = passes.even_goes_on
