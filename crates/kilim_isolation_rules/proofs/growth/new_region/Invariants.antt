use Rattle.std.proofs.Common.{◌≡◌, max, drop}
use Rattle.kilim_isolation_graph.specs.Nodes.{new_region}
use Rattle.kilim_isolation_rules.proofs.growth.new_region.Given as goal

abbrev pub invariant-loop-node : goal.invariant-loop-node
invariant-loop-node l = max l.region (new_region (drop l.node-index l.nodes)) ≡ new_region l.nodes
