use Rattle.kilim_case_text.proofs.run_tables.Full.{full_alone}
use Rattle.kilim_case_text.proofs.run_tables.shared.alone.Goals as goal

pub returns : goal.returns
returns c = full_alone _ _ _ _ c.requires c.in_ok-node.ensures c.in-Ok.ensures.ok.1
