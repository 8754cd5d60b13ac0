use Rattle.kilim_run_model.proofs.kin.trees.Shaped.{shape_kin}
use Rattle.kilim_run_model.proofs.kin.trees.shapes_are_kin.Goals as goal

pub returns : goal.returns
returns c = λ p of owner t k0 h k alike n x e i. shape_kin p of owner t k0 h k alike n x e i
