use Rattle.kilim_case_text.proofs.run_tables.Full.{empty_full}
use Rattle.kilim_case_text.proofs.run_tables.shared.circle_case.Goals as goal

pub circle-requires : goal.circle-requires
circle-requires c = empty_full _ c.new-heap.ensures
