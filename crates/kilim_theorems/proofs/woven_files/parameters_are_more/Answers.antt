use Rattle.kilim_theorems.proofs.woven_files.Annotated.{parameters_fit, params_more}
use Rattle.kilim_theorems.proofs.woven_files.parameters_are_more.Goals as goal

pub returns : goal.returns
returns c = λ pool n rest few h. record { fit = parameters_fit pool n rest few h; lists = params_more pool n rest h }
