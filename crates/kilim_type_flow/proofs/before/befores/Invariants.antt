use Rattle.kilim_type_flow.specs.Marks.{BeforeSoFar, flow_tos}
use Rattle.kilim_type_flow.proofs.before.befores.Given as goal

abbrev pub invariant-loop-at : goal.invariant-loop-at
invariant-loop-at l = BeforeSoFar flow_tos l.fn.method l.fn.size l.at l.rows.items
