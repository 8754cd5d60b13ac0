use Rattle.std.proofs.Common.{◌≤◌, length}
use Rattle.kilim_isolation.specs.Tables.{places_of}
use Rattle.kilim_isolation.proofs.Numbered.{IsNoted}
use Rattle.kilim_isolation.proofs.tables.table_of.Given as goal

abbrev pub invariant-loop-number : goal.invariant-loop-number
invariant-loop-number g l = (l.number ≤ length l.entries) × IsNoted l.table.items (places_of l.entries) l.size l.number

abbrev pub decreases-loop-number : goal.decreases-loop-number
decreases-loop-number g l = l.number
