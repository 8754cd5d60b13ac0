use Rattle.std.proofs.Common.{length}
use Rattle.kilim_run_journal.proofs.TextRead.{Reading}
use Rattle.kilim_run_journal.proofs.read.read_text.Given as goal

abbrev pub invariant-loop-rest : goal.invariant-loop-rest
invariant-loop-rest l = Reading l.bytes l.entries l.rest

abbrev pub decreases-loop-rest : goal.decreases-loop-rest
decreases-loop-rest l = length l.rest
