use Rattle.std.proofs.Common.{length}
use Rattle.kilim_run_journal.proofs.TokensRead.{UnitsSoFar}
use Rattle.kilim_run_journal.proofs.values.units_at.Given as goal

abbrev pub invariant-loop-first : goal.invariant-loop-first
invariant-loop-first l = UnitsSoFar l.bytes l.end l.units.items l.rest

abbrev pub decreases-loop-first : goal.decreases-loop-first
decreases-loop-first l = length l.rest
