use Rattle.std.proofs.Common.{◌≡◌, ◌++◌, drop}
use Rattle.kilim_isolation_graph.specs.Canonical.{kept_names}
use Rattle.kilim_isolation_graph.proofs.canonical.kept_names.Given as goal

abbrev pub invariant-loop-at : goal.invariant-loop-at
invariant-loop-at l = l.new ++ kept_names (drop l.at l.types) (drop l.at l.slots) ≡ kept_names l.types l.slots
