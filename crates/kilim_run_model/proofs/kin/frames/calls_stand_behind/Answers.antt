use Rattle.kilim_run_model.proofs.kin.frames.Behind as behind
use Rattle.kilim_run_model.proofs.kin.frames.calls_stand_behind.Goals as goal

pub returns : goal.returns
returns c = behind.calls_stand_behind
