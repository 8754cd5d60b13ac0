use Rattle.std.proofs.Common.{rules, reverse}
use Rattle.kilim_isolation_graph.proofs.Lists.{named_both}
use Rattle.kilim_isolation_graph.proofs.canonical.slots_of.Goals as goal

pub returns : goal.returns
returns c =
    named_both c.args.graph.now.locals c.in-Ok.stack.items (reverse c.args.graph.now.stack) c.push_locals.new.named c.push_named.new.named (search rules) (search rules) (search rules)
