use Rattle.kilim_type_sound.proofs.Grounds.{facts_hold}
use Rattle.kilim_type_sound.proofs.facts_hold.Goals as goal

pub returns : goal.returns
returns c = facts_hold
