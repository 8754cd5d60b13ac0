use Rattle.std.proofs.Common.{◌≡◌, ◌++◌, drop}
use Rattle.kilim_isolation_graph.specs.Entry.{entry_names}
use Rattle.kilim_isolation_graph.proofs.entry.entry_names.Given as goal

abbrev pub invariant-loop-number : goal.invariant-loop-number
invariant-loop-number l = l.names ++ entry_names l.program (drop l.number l.parameters) l.number ≡ entry_names l.program l.parameters 0
