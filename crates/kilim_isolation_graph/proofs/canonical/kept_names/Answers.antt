use Rattle.kilim_isolation_graph.specs.Canonical.{kept_names}
use Rattle.kilim_isolation_graph.proofs.Lists.{kept_more}
use Rattle.kilim_isolation_graph.proofs.canonical.kept_names.Goals as goal

pub loop-at-preserved : goal.loop-at-preserved
loop-at-preserved c =
    kept_more c.args.types.now c.args.slots.now c.loop-at.new c.push.new.self c.loop-at.at _ c.kept_name.result c.type_at.result (kept_names c.args.types.now c.args.slots.now) c.loop-at-test.true c.type_at.ensures c.kept_name.ensures c.in-Ok.ensures.ok c.loop-at.invariant
