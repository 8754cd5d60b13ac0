use Rattle.kilim_run_model.proofs.kin.trees.ReadBack.{shapes_give}
use Rattle.kilim_run_model.proofs.one_heap.Steps.{step}
use Rattle.kilim_run_model.proofs.one_heap.moves_match.Goals as goal

pub returns : goal.returns
returns c = λ setting m s tied t whole. step setting (shapes_give setting.program) m s tied t whole
