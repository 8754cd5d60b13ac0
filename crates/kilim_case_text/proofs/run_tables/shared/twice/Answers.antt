use Rattle.kilim_case_text.proofs.run_tables.Full.{all_full}
use Rattle.kilim_case_text.proofs.run_tables.shared.twice.Goals as goal

pub returns : goal.returns
returns c = all_full _ _ c.in_ok-root.ensures
