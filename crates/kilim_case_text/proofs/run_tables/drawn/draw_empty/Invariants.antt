use Rattle.std.proofs.Common.{reverse}
use Rattle.kilim_case_text.specs.run_tables.Chains.{AreBelow}
use Rattle.kilim_case_text.proofs.run_tables.drawn.draw_empty.Given as goal

abbrev pub invariant-loop-k : goal.invariant-loop-k
invariant-loop-k l = AreBelow l.heap (reverse l.pending.items)
