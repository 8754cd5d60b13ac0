use Rattle.std.proofs.Common.{◌≡◌, ◌++◌, drop}
use Rattle.kilim_isolation_rules.specs.Calls.{parameters}
use Rattle.kilim_isolation_rules.proofs.calls.push_passed.Given as goal

abbrev pub invariant-loop-at : goal.invariant-loop-at
invariant-loop-at l = l.passed ++ parameters (drop l.at l.tys) (drop l.at l.qualifiers) (drop l.at l.names) (drop l.at l.types) ≡ l.fn.passed ++ parameters l.tys l.qualifiers l.names l.types
