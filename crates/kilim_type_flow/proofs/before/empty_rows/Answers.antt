use Rattle.std.proofs.Common.{refl}
use Rattle.kilim_type_flow.proofs.FlowEdges.{no_more_rows}
use Rattle.kilim_type_flow.proofs.before.empty_rows.Goals as goal

pub loop-init : goal.loop-init
loop-init c = rw c.new-rows.ensures.items (record { long = refl; none = λ q. refl })

pub loop-preserved : goal.loop-preserved
loop-preserved c = rw (c.in-Ok.ensures.items, c.new-row.ensures) (no_more_rows c.loop.counter c.loop.rows.items c.loop.invariant)
