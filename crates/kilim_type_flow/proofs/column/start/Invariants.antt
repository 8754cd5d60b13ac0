use Rattle.std.proofs.Common.{◌≡◌, length}
use Rattle.kilim_type_flow.specs.Marks.{Marks, ReadsMarked}
use Rattle.kilim_type_flow.proofs.column.start.Given as goal

abbrev pub invariant-loop-at : goal.invariant-loop-at
invariant-loop-at l =
    (length l.marks.items ≡ length l.initial.marks.items)
    × Marks l.fn.method l.fn.local l.marks.items l.work.items
    × ReadsMarked l.fn.method l.fn.local l.at l.marks.items
