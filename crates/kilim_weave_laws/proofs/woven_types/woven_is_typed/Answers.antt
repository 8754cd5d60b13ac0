use Rattle.kilim_weave_laws.proofs.woven_types.Theorem.{proved}
use Rattle.kilim_weave_laws.proofs.woven_types.woven_is_typed.Goals as goal

pub returns : goal.returns
returns c = λ x W w v. proved x W w v
