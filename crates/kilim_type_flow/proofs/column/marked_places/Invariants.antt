use Rattle.std.proofs.Common.{◌≡◌, replicate}
use Rattle.kilim_type_flow.proofs.column.marked_places.Given as goal

abbrev pub invariant-loop : goal.invariant-loop
invariant-loop l = l.marks.items ≡ replicate l.counter l.fn.all
