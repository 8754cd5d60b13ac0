use Rattle.kilim_class_pool.specs.Reading.{entries_at}
use Rattle.kilim_class_pool.proofs.EntryLoop.{SoFar}
use Rattle.std.proofs.Common.{false}
use Rattle.kilim_class_pool.proofs.reading.push_entries.Given as goal

abbrev pub invariant-loop-i : goal.invariant-loop-i
invariant-loop-i l = SoFar (entries_at l.count false 1 l.bytes) l.count l.i l.entries l.second l.rest
