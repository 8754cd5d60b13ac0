use Rattle.kilim_replay_laws.proofs.Samples.{samples}
use Rattle.kilim_replay_laws.proofs.samples_hold.Goals as goal

pub returns : goal.returns
returns c = samples
