use Rattle.kilim_case_text.proofs.run_tables.Below.{none_yet}
use Rattle.kilim_case_text.proofs.run_tables.drawn.tree_case.Goals as goal

pub push_drawn-requires : goal.push_drawn-requires
push_drawn-requires c = none_yet _ _ c.new-pending.ensures.items
