use Rattle.kilim_type_flow.specs.Marks.{BeforeSoFar, caught_tos}
use Rattle.kilim_type_flow.proofs.before.caught_befores.Given as goal

abbrev pub invariant-loop-at : goal.invariant-loop-at
invariant-loop-at l = BeforeSoFar (caught_tos l.fn.method) l.fn.method l.fn.size l.at l.rows.items
