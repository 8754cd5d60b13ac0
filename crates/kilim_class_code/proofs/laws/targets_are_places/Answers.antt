use Rattle.kilim_class_code.proofs.Marking.{passed}
use Rattle.kilim_class_code.specs.Code.{is_place, mid_target}
use Rattle.kilim_class_code.proofs.laws.targets_are_places.Goals as goal

pub returns : goal.returns
unfolding mid_target
returns c = λ code e. passed (is_place code) code e
