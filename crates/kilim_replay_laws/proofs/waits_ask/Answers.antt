use Rattle.kilim_replay_laws.proofs.Waiting as waiting
use Rattle.kilim_replay_laws.proofs.waits_ask.Goals as goal

pub returns : goal.returns
returns c = waiting.waits_ask
