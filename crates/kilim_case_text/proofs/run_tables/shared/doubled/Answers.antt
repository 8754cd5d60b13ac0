use Rattle.kilim_case_text.proofs.run_tables.Full.{full_next}
use Rattle.kilim_case_text.proofs.run_tables.shared.doubled.Goals as goal

pub loop-k-preserved : goal.loop-k-preserved
loop-k-preserved c = full_next _ _ _ _ _ c.loop-k.invariant c.in_ok-pair.ensures c.in-Ok.ensures.ok.1
