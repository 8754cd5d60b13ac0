use Rattle.kilim_theorems.proofs.woven_files.Worlds.{members_stay}
use Rattle.kilim_theorems.proofs.woven_files.members_stay.Goals as goal

pub returns : goal.returns
returns c = members_stay
