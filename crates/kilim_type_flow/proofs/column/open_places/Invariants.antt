use Rattle.std.proofs.Common.{◌≡◌, length}
use Rattle.kilim_type_flow.specs.Marks.{Opens}
use Rattle.kilim_type_flow.proofs.column.open_places.Given as goal

abbrev pub invariant-loop-at : goal.invariant-loop-at
invariant-loop-at l = (length l.marks.items ≡ l.fn.size) × Opens l.fn.method l.fn.local l.at l.marks.items
