use Rattle.kilim_replay_laws.proofs.shared.Going.{typed_runs_go}
use Rattle.kilim_replay_laws.proofs.shared.typed_runs_go.Goals as goal

pub returns : goal.returns
returns c = typed_runs_go
