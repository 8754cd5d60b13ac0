use Rattle.std.proofs.Common.{◌≡◌, ◌++◌, drop, length}
use Rattle.kilim_isolation_rules.specs.Steps.{join_node}
use Rattle.kilim_isolation_graph.specs.Nodes.{node_at, listed}
use Rattle.kilim_isolation_rules.proofs.steps.join.Given as goal

abbrev pub invariant-loop-number : goal.invariant-loop-number
invariant-loop-number l = l.new ≡ listed (join_node (node_at l.nodes) l.holder l.value l.label) l.number
