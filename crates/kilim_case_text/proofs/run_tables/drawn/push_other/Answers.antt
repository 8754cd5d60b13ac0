use Rattle.kilim_run_trees.proofs.Callers.{all_there}
use Rattle.kilim_case_text.proofs.run_tables.drawn.push_other.Goals as goal

pub push_tree-requires : goal.push_tree-requires
push_tree-requires c = all_there _ _ _ c.in-Ok.ensures.ok.now
