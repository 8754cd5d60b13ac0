use Rattle.kilim_weave_laws.proofs.woven_programs.selects.Together.{woven_selects}
use Rattle.kilim_weave_laws.proofs.woven_programs.selects.woven_selects_keep.Goals as goal

pub returns : goal.returns
returns c = woven_selects
