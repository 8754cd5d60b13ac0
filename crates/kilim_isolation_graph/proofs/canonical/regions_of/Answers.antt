use Rattle.std.proofs.Common.{ap}
use Rattle.kilim_isolation_graph.specs.declared.node.Node.{Node}
use Rattle.kilim_isolation_graph.specs.Nodes.{node_at}
use Rattle.kilim_isolation_graph.proofs.Loops.{mapped}
use Rattle.kilim_isolation_graph.proofs.canonical.regions_of.Goals as goal

pub loop-node-preserved : goal.loop-node-preserved
loop-node-preserved c =
    mapped (λ n. (node_at c.args.nodes.now n).region) c.loop-node.regions c.push.new.self c.args.order.now c.loop-node.node-index 0 c.node_at.result.region c.loop-node-test.true c.loop-node.invariant (ap (λ (n : Node). n.region) c.node_at.ensures) c.in-Ok.ensures.ok
