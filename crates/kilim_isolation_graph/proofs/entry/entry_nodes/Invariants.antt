use Rattle.std.proofs.Common.{◌≡◌}
use Rattle.kilim_isolation_graph.specs.Entry.{entry_node, quality_from}
use Rattle.kilim_isolation_graph.specs.Nodes.{listed}
use Rattle.kilim_isolation_graph.proofs.entry.entry_nodes.Given as goal

abbrev pub invariant-loop-number : goal.invariant-loop-number
invariant-loop-number l = l.nodes ≡ listed (λ k. entry_node (quality_from l.program l.parameters k) k) l.number
