use Rattle.kilim_replay_laws.proofs.One.{one_verdict}
use Rattle.kilim_replay_laws.proofs.one_verdict.Goals as goal

pub returns : goal.returns
returns c = one_verdict
