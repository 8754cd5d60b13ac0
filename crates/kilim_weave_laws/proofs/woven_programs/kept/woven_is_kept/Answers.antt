use Rattle.kilim_weave_laws.proofs.woven_programs.kept.Together.{kept}
use Rattle.kilim_weave_laws.proofs.woven_programs.kept.woven_is_kept.Goals as goal

pub returns : goal.returns
returns c = kept
