use Rattle.std.proofs.Common.{refl, sym, ◌∙◌}
use Rattle.kilim_link_spec.specs.Linked.{handler_in}
use Rattle.kilim_link_members.proofs.Appended.{one_more_at, not_there_at, all_made}
use Rattle.kilim_link_members.proofs.tables.handlers_in.Goals as goal

pub returns-in-Ok-None : goal.returns-in-Ok-None
returns-in-Ok-None c = not_there_at (handler_in c.args.world.now c.args.pool.now) c.args.rows.now c.args.rows.now c.loop-row.row-index _ c.loop-row.handlers refl c.loop-row-test.true c.loop-row.invariant (sym c.in-Ok-None.field-0-is ∙ c.in-Ok-None.ensures)

pub loop-row-preserved : goal.loop-row-preserved
loop-row-preserved c = one_more_at (handler_in c.args.world.now c.args.pool.now) c.args.rows.now c.args.rows.now c.loop-row.row-index _ c.loop-row.handlers refl c.loop-row-test.true c.loop-row.invariant c.in-Ok-Some.handler c.push.new.self (sym c.in-Ok-Some.field-0-is ∙ c.in-Ok-Some.ensures) c.in-Ok.ensures.ok

pub returns : goal.returns
returns c = all_made (handler_in c.args.world.now c.args.pool.now) c.args.rows.now c.args.rows.now c.loop-row.row-index c.loop-row.handlers refl c.loop-row-test.false c.loop-row.invariant
