use Rattle.std.proofs.Common.{List, ◌++◌, take}
use Rattle.kilim_program.specs.declared.names.MethodId.{MethodId}
use Rattle.kilim_isolation.specs.Faults.{AreReportsOfAll}
use Rattle.kilim_isolation.proofs.check.push_each.Given as goal

abbrev pub invariant-loop-id : goal.invariant-loop-id
invariant-loop-id l = (done : List MethodId) → AreReportsOfAll l.typed done l.fn.reports → AreReportsOfAll l.typed (done ++ take l.id-index l.ids) l.reports
