use Rattle.kilim_replay_thread.proofs.Steps as steps
use Rattle.kilim_replay_thread.proofs.runs.runs_are_quiet.Goals as goal

pub returns : goal.returns
returns c = steps.runs_are_quiet
