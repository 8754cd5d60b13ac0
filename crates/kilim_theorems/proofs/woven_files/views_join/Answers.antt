use Rattle.kilim_theorems.proofs.woven_files.Worlds.{views_join}
use Rattle.kilim_theorems.proofs.woven_files.views_join.Goals as goal

pub returns : goal.returns
returns c = views_join
