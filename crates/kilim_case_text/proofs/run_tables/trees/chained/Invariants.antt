use Rattle.kilim_case_text.specs.run_tables.Chains.{IsBelow}
use Rattle.kilim_case_text.proofs.run_tables.trees.chained.Given as goal

abbrev pub invariant-loop-k : goal.invariant-loop-k
invariant-loop-k l = IsBelow l.heap l.head
