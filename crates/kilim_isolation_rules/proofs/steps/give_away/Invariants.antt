use Rattle.std.proofs.Common.{◌≡◌, ◌++◌, drop, length}
use Rattle.kilim_isolation_rules.specs.Steps.{gone_node}
use Rattle.kilim_isolation_graph.specs.Nodes.{node_at, listed}
use Rattle.kilim_isolation_rules.proofs.steps.give_away.Given as goal

abbrev pub invariant-loop-number : goal.invariant-loop-number
invariant-loop-number l = l.new ≡ listed (gone_node (node_at l.nodes) l.value) l.number
