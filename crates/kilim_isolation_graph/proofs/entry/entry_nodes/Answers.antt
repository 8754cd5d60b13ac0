use Rattle.kilim_isolation_graph.proofs.Parameters.{nodes_more}
use Rattle.kilim_isolation_graph.proofs.entry.entry_nodes.Goals as goal

pub loop-number-preserved : goal.loop-number-preserved
loop-number-preserved c =
    nodes_more c.args.program.now c.args.parameters.now c.loop-number.number _ c.quality.result c.entry_node.result c.loop-number.nodes c.push.new.self c.loop-number-test.true c.quality.ensures c.entry_node.ensures c.in-Ok.ensures.ok c.loop-number.invariant
