use Rattle.std.proofs.Common.{ap}
use Rattle.kilim_isolation_graph.specs.declared.node.Node.{Node}
use Rattle.kilim_isolation_graph.specs.Nodes.{node_at}
use Rattle.kilim_isolation_rules.specs.Steps.{climbs}
use Rattle.kilim_isolation_rules.proofs.Climbing.{climb_more}
use Rattle.kilim_isolation_rules.proofs.steps.climbs.Goals as goal

pub loop-left-preserved : goal.loop-left-preserved
loop-left-preserved c =
    climb_more (node_at c.args.nodes.now) c.loop-left.left c.loop-left.at c.args.to c.in-Some.parent c.in-Some.field-0-1 c.node_at.result.parent (climbs (node_at c.args.nodes.now) c.args.most c.args.from c.args.to)
    c.loop-left-test.true c.if-at-to.false (ap (λ (n : Node). n.parent) c.node_at.ensures) c.in-Some.is c.loop-left.invariant
