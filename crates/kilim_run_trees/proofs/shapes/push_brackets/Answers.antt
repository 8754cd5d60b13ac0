use Rattle.kilim_run_trees.proofs.Emitting.{brackets_more}
use Rattle.kilim_run_trees.proofs.shapes.push_brackets.Goals as goal

pub loop-k-preserved : goal.loop-k-preserved
loop-k-preserved c = brackets_more _ _ _ _ c.loop-k.invariant c.in-Ok.ensures
