use Rattle.std.proofs.Common.{◌≡◌, ◌++◌, drop, length}
use Rattle.kilim_isolation_rules.specs.Steps.{climbs}
use Rattle.kilim_isolation_graph.specs.Nodes.{node_at}
use Rattle.kilim_isolation_rules.proofs.steps.climbs.Given as goal

abbrev pub invariant-loop-left : goal.invariant-loop-left
invariant-loop-left l = climbs (node_at l.nodes) l.left l.at l.to ≡ climbs (node_at l.nodes) l.most l.from l.to

abbrev pub decreases-loop-left : goal.decreases-loop-left
decreases-loop-left l = l.left
