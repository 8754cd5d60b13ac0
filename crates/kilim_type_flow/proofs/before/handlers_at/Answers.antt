use Rattle.std.proofs.Common.{arith, refl}
use Rattle.kilim_type_flow.proofs.Loops.{handlers_end, handlers_on}
use Rattle.kilim_type_flow.proofs.before.handlers_at.Goals as goal

pub loop-handler-init : goal.loop-handler-init
loop-handler-init c = rw c.new-tos.ensures.items refl

pub loop-handler-preserved : goal.loop-handler-preserved
loop-handler-preserved c =
    handlers_on c.loop-handler.tos.items c.push_handler.new.tos.items _ c.args.handlers.now c.args.place c.loop-handler.handler-index _ _ c.loop-handler-test.true refl c.loop-handler.invariant c.in-Ok.ensures

pub returns : goal.returns
returns c = handlers_end c.loop-handler.tos.items _ c.args.handlers.now c.args.place c.loop-handler.handler-index (omega arith) c.loop-handler.invariant
