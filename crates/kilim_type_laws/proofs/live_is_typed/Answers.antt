use Rattle.kilim_type_laws.proofs.Lives.{live_is_typed}
use Rattle.kilim_type_laws.proofs.live_is_typed.Goals as goal

pub returns : goal.returns
returns c = live_is_typed
