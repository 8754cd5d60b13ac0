use Rattle.kilim_mail_stamps.proofs.Begins as begins
use Rattle.kilim_mail_stamps.proofs.merged_replays.Goals as goal

pub returns : goal.returns
returns c = λ set parts journal run merged. begins.merged_replays set parts journal run merged
