use Rattle.std.proofs.Common.{rules, ◌∙◌}
use Rattle.kilim_isolation_graph.proofs.Fronts.{one_more, set_there}
use Rattle.kilim_isolation_graph.proofs.slots.set_front.Goals as goal

pub loop-front-preserved : goal.loop-front-preserved
loop-front-preserved c =
    one_more c.loop-front.front.items c.push.new.self.items c.loop-front.left c.saturating_sub-left.result c.args.at c.args.name (search rules) c.in-Ok.ensures.items c.saturating_sub-left.ensures ∙ c.loop-front.invariant

pub returns : goal.returns
returns c = set_there c.loop-front.front.items c.loop-front.left c.args.at c.args.name (search rules) ∙ c.loop-front.invariant
