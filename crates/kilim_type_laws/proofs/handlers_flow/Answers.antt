use Rattle.kilim_type_laws.proofs.Edges.{handlers_flow}
use Rattle.kilim_type_laws.proofs.handlers_flow.Goals as goal

pub returns : goal.returns
returns c = handlers_flow
