use Rattle.std.proofs.Common.{ap, ◌∙◌}
use Rattle.kilim_isolation_rules.specs.Calls as spec
use Rattle.kilim_isolation_rules.proofs.calls.call_with.Goals as goal

pub returns : goal.returns
returns c = c.broken_by-broken.ensures c.call.new.graph ∙ ap (spec.passes_with c.args.program.now c.args.arguments.now c.args.graph.now) c.in-Ok.ensures
