use Rattle.std.proofs.Common.{◌≡◌, length}
use Rattle.kilim_type_flow.specs.Marks.{AreColumns}
use Rattle.kilim_type_flow.proofs.table.columns_of.Given as goal

abbrev pub invariant-loop-local : goal.invariant-loop-local
invariant-loop-local l = (length l.columns.items ≡ l.local) × AreColumns l.fn.method l.local l.columns.items
