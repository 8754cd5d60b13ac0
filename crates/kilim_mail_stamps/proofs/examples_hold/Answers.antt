use Rattle.kilim_mail_stamps.proofs.Examples as examples
use Rattle.kilim_mail_stamps.proofs.examples_hold.Goals as goal

pub returns : goal.returns
returns c = examples.examples
