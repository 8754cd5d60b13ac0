use Rattle.kilim_case_text.specs.run_tables.Chains.{IsFullAt}
use Rattle.kilim_case_text.proofs.run_tables.shared.doubled.Given as goal

abbrev pub invariant-loop-k : goal.invariant-loop-k
invariant-loop-k l = IsFullAt l.heap l.last
