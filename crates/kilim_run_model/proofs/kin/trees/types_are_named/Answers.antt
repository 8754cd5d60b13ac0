use Rattle.kilim_run_model.proofs.kin.trees.NamedTypes.{class_is_named, array_is_named}
use Rattle.kilim_run_model.proofs.kin.trees.types_are_named.Goals as goal

pub returns : goal.returns
returns c = λ p differ plain. (class_is_named p differ plain, array_is_named p differ plain)
