use Rattle.kilim_run_model.proofs.kin.Rows.{rows_kin}
use Rattle.kilim_run_model.proofs.kin.Moving.{moves_kin}
use Rattle.kilim_run_model.proofs.kin.moves_are_kin.Goals as goal

pub returns : goal.returns
returns c = λ p of owner t h k alike top other fs gs held x. moves_kin p of owner t h k alike (rows_kin p) top other held fs gs x
