use Rattle.std.proofs.Common.{◌≡◌, ◌++◌, drop}
use Rattle.kilim_isolation_graph.specs.Entry.{declared_parameters}
use Rattle.kilim_isolation_graph.proofs.entry.push_parameters.Given as goal

abbrev pub invariant-loop-at : goal.invariant-loop-at
invariant-loop-at l = l.list ++ declared_parameters (drop l.at l.tys) (drop l.at l.qualifiers) ≡ l.fn.list ++ declared_parameters l.tys l.qualifiers
