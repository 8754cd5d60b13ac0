use Rattle.kilim_run_model.proofs.Steps as steps
use Rattle.kilim_run_model.proofs.one_next_action.Goals as goal

pub returns : goal.returns
returns c = λ setting m n s a b t p q. steps.same_action setting m n s a b t p q
