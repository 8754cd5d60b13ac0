use Rattle.kilim_case_text.proofs.run_tables.Chained.{none_below, one_more}
use Rattle.kilim_case_text.proofs.run_tables.trees.chained.Goals as goal

pub loop-k-init : goal.loop-k-init
loop-k-init c = none_below _

pub loop-k-preserved : goal.loop-k-preserved
loop-k-preserved c = one_more _ _ _ _ _ c.loop-k.invariant c.in_ok-node.ensures c.in-Ok.ensures.ok.0 c.in-Ok.ensures.ok.1
