use Rattle.kilim_replay_laws.proofs.shared.Shared.{verified_is_shared}
use Rattle.kilim_replay_laws.proofs.shared.verified_is_shared.Goals as goal

pub returns : goal.returns
returns c = verified_is_shared
