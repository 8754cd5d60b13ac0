use Rattle.kilim_mail_stamps.proofs.Aparts as aparts
use Rattle.kilim_mail_stamps.proofs.runs_are_apart.Goals as goal

pub returns : goal.returns
returns c = λ set parts run. aparts.apart_of set parts run
