use Rattle.kilim_weave_laws.proofs.woven_programs.keeps.Whole.{woven_methods}
use Rattle.kilim_weave_laws.proofs.woven_programs.keeps.woven_methods_keep.Goals as goal

pub returns : goal.returns
returns c = woven_methods
