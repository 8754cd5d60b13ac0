use Rattle.kilim_run_model.proofs.kin.Rows.{rows_kin}
use Rattle.kilim_run_model.proofs.kin.rows_are_kin.Goals as goal

pub returns : goal.returns
returns c = λ p. rows_kin p
