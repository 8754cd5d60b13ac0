use Rattle.std.proofs.Common.{◌≡◌, ◌+◌, length}
use Rattle.kilim_type_flow.specs.Marks.{Marks, ReadsMarked, unmarked}
use Rattle.kilim_type_flow.proofs.column.spread_all.Given as goal

abbrev pub invariant-loop-place : goal.invariant-loop-place
invariant-loop-place l =
    (length l.marks.items ≡ length l.fn.befores)
    × Marks l.fn.method l.fn.local l.marks.items l.work.items
    × ReadsMarked l.fn.method l.fn.local (length l.fn.method.code) l.marks.items

abbrev pub decreases-loop-place : goal.decreases-loop-place
decreases-loop-place l = unmarked l.marks.items + length l.work.items
