use Rattle.std.proofs.Common.{refl}
use Rattle.kilim_outside.proofs.Started.{same_start}
use Rattle.kilim_outside.proofs.real.read_file.Goals as goal

pub returns-in_err-open : goal.returns-in_err-open
returns-in_err-open g c = same_start _ _ refl
