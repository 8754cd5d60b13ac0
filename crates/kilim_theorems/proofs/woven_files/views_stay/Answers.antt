use Rattle.kilim_theorems.proofs.woven_files.Views.{views_stay}
use Rattle.kilim_theorems.proofs.woven_files.views_stay.Goals as goal

pub returns : goal.returns
returns c = views_stay
