use Rattle.kilim_theorems.proofs.run_examples.Bounds.{bounds_at_edges}
use Rattle.kilim_theorems.proofs.run_examples.bounds_at_edges.Goals as goal

pub returns : goal.returns
returns c = bounds_at_edges
