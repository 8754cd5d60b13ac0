use Rattle.std.proofs.Common.{◌≡◌, ◌++◌, drop, length}
use Rattle.kilim_isolation_rules.specs.Steps.{cut_node}
use Rattle.kilim_isolation_graph.specs.Nodes.{node_at, listed}
use Rattle.kilim_isolation_rules.proofs.steps.cut.Given as goal

abbrev pub invariant-loop-number : goal.invariant-loop-number
invariant-loop-number l = l.new ≡ listed (cut_node (node_at l.nodes) (length l.nodes) l.holder l.child l.region) l.number
