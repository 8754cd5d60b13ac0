use Rattle.kilim_replay_laws.proofs.shared.Stay as stay
use Rattle.kilim_replay_laws.proofs.shared.heaps_stay.Goals as goal

pub returns : goal.returns
returns c = λ p top below h. stay.moves_stay h p top below
