use Rattle.kilim_weave_laws.proofs.woven_programs.kinds.Together.{woven_kinds}
use Rattle.kilim_weave_laws.proofs.woven_programs.kinds.woven_kinds_keep.Goals as goal

pub returns : goal.returns
returns c = woven_kinds
