use Rattle.kilim_case_text.proofs.run_tables.Full.{empty_full}
use Rattle.kilim_case_text.proofs.run_tables.shared.twice_case.Goals as goal

pub twice-requires : goal.twice-requires
twice-requires c = empty_full _ c.new-heap.ensures
