use Rattle.std.proofs.Common.{length}
use Rattle.kilim_isolation_graph.specs.Nodes.{node_at}
use Rattle.kilim_isolation_rules.specs.Steps.{cut_node}
use Rattle.kilim_isolation_rules.proofs.Climbing.{listed_more}
use Rattle.kilim_isolation_rules.proofs.steps.cut.Goals as goal

pub loop-number-preserved : goal.loop-number-preserved
loop-number-preserved c =
    listed_more (cut_node (node_at c.args.nodes.now) (length c.args.nodes.now) c.args.holder c.args.child c.args.region) c.loop-number.number c.cut_node.result c.loop-number.new c.push.new.self c.cut_node.ensures c.in-Ok.ensures.ok c.loop-number.invariant
