use Rattle.kilim_run_trees.proofs.Emitting.{described, ok_into}
use Rattle.kilim_run_trees.proofs.shapes.push_descriptor.Goals as goal

pub returns : goal.returns
returns c = ok_into c.push_base.result _ _ c.push_base.ensures (described _ _ _ _ _ c.in-Ok.ensures)
