use Rattle.kilim_type_flow.specs.Marks.{AreEmpty}
use Rattle.kilim_type_flow.proofs.before.empty_rows.Given as goal

abbrev pub invariant-loop : goal.invariant-loop
invariant-loop l = AreEmpty l.counter l.rows.items
