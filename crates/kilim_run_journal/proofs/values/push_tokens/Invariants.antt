use Rattle.std.proofs.Common.{length}
use Rattle.kilim_run_journal.proofs.ShapesRead.{ShapeSoFar}
use Rattle.kilim_run_journal.proofs.values.push_tokens.Given as goal

abbrev pub invariant-loop-rest : goal.invariant-loop-rest
invariant-loop-rest l = ShapeSoFar l.bytes l.tokens l.begun l.follows l.rest

abbrev pub decreases-loop-rest : goal.decreases-loop-rest
decreases-loop-rest l = length l.rest
