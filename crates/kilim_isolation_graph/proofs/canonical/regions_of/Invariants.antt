use Rattle.std.proofs.Common.{◌≡◌, take, map}
use Rattle.kilim_isolation_graph.specs.Nodes.{node_at}
use Rattle.kilim_isolation_graph.proofs.canonical.regions_of.Given as goal

abbrev pub invariant-loop-node : goal.invariant-loop-node
invariant-loop-node l = l.regions ≡ map (λ n. (node_at l.nodes n).region) (take l.node-index l.order)
