use Rattle.kilim_run_model.proofs.Steps as steps
use Rattle.kilim_run_model.proofs.one_replay.Goals as goal

pub returns : goal.returns
returns c = λ setting s es a b p q. steps.one_replay setting s es a b p q
