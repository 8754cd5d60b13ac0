use Rattle.std.proofs.Common.{reverse}
use Rattle.kilim_case_text.specs.run_tables.Chains.{AreBelow}
use Rattle.kilim_case_text.proofs.run_tables.drawn.draw_words.Given as goal

abbrev pub invariant-loop-word : goal.invariant-loop-word
invariant-loop-word l = AreBelow l.heap (reverse l.pending.items)
