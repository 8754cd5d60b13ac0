use Rattle.kilim_run_trees.proofs.Callers.{all_there, can_leave}
use Rattle.kilim_case_text.proofs.run_tables.trees.taken.Goals as goal

pub reserve_tree-requires : goal.reserve_tree-requires
reserve_tree-requires c = all_there _ _ _ c.requires.tree

pub take_out-requires : goal.take_out-requires
take_out-requires c = can_leave _ _ _ _ c.requires.tree c.requires.once c.in-Ok.ensures.ok
