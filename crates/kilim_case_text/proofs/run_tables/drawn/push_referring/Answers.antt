use Rattle.kilim_case_text.proofs.run_tables.Below.{none_yet}
use Rattle.kilim_case_text.proofs.run_tables.drawn.push_referring.Goals as goal

pub draw_empty-requires : goal.draw_empty-requires
draw_empty-requires c = none_yet _ _ c.new-pending.ensures.items
