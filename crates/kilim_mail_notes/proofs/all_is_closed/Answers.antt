use Rattle.kilim_mail_notes.proofs.Sums as sums
use Rattle.kilim_mail_notes.proofs.all_is_closed.Goals as goal

pub returns : goal.returns
returns c = λ ks ws bs even cols h. sums.all_is_closed ks ws bs even cols h
