use Rattle.kilim_type_laws.proofs.Edges.{edges_flow}
use Rattle.kilim_type_laws.proofs.edges_flow.Goals as goal

pub returns : goal.returns
returns c = edges_flow
