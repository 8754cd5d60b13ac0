use Rattle.std.proofs.Common.{length}
use Rattle.kilim_isolation_graph.specs.Nodes.{node_at}
use Rattle.kilim_isolation_rules.specs.Steps.{gone_node}
use Rattle.kilim_isolation_rules.proofs.Climbing.{listed_more}
use Rattle.kilim_isolation_rules.proofs.steps.give_away.Goals as goal

pub loop-number-preserved : goal.loop-number-preserved
loop-number-preserved c =
    listed_more (gone_node (node_at c.args.nodes.now) c.args.value) c.loop-number.number c.gone_node.result c.loop-number.new c.push.new.self c.gone_node.ensures c.in-Ok.ensures.ok c.loop-number.invariant
