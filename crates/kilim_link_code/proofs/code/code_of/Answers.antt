use Rattle.std.proofs.Common.{sym, ◌∙◌}
use Rattle.kilim_link_spec.specs.Code.{placed_in}
use Rattle.kilim_link_code.proofs.Loops.{one_more, not_there, all_made}
use Rattle.kilim_link_code.proofs.code.code_of.Goals as goal

pub returns-in-Ok-None : goal.returns-in-Ok-None
returns-in-Ok-None c = not_there (placed_in c.args.world.now c.args.pool.now) c.args.code.now c.loop-placed.placed-index c.placed-item.result _ c.loop-placed.instrs c.loop-placed-test.true c.placed-item.is c.loop-placed.invariant (sym c.in-Ok-None.field-0-is ∙ c.in-Ok-None.ensures)

pub loop-placed-preserved : goal.loop-placed-preserved
loop-placed-preserved c = one_more (placed_in c.args.world.now c.args.pool.now) c.args.code.now c.loop-placed.placed-index c.placed-item.result _ c.loop-placed.instrs c.loop-placed-test.true c.placed-item.is c.loop-placed.invariant c.in-Ok-Some.instr c.push.new.self (sym c.in-Ok-Some.field-0-is ∙ c.in-Ok-Some.ensures) c.in-Ok.ensures.ok

pub returns : goal.returns
returns c = all_made (placed_in c.args.world.now c.args.pool.now) c.args.code.now c.loop-placed.placed-index c.loop-placed.instrs c.loop-placed-test.false c.loop-placed.invariant
