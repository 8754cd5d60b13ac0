use Rattle.kilim_case_text.proofs.run_tables.Full.{all_full, full_itself}
use Rattle.kilim_case_text.proofs.run_tables.shared.circle.Goals as goal

pub returns : goal.returns
returns c = all_full _ _ (full_itself _ _ _ _ c.in_ok-at.ensures c.in_ok-node.ensures c.replace.ensures.left)
