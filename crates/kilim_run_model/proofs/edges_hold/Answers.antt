use Rattle.kilim_run_model.proofs.Edges.{edges}
use Rattle.kilim_run_model.proofs.edges_hold.Goals as goal

pub returns : goal.returns
returns c = edges
