use Rattle.std.proofs.Common.{arith, refl}
use Rattle.kilim_isolation.proofs.Loops.{handled_end, handled_on}
use Rattle.kilim_isolation.proofs.walk.push_handlers.Goals as goal

pub loop-handler-preserved : goal.loop-handler-preserved
loop-handler-preserved c =
    handled_on c.loop-handler.exits c.push_handler.new.exits _ c.args.handlers.now c.args.place c.loop-handler.handler-index _ _ c.loop-handler-test.true refl c.loop-handler.invariant c.in-Ok.ensures

pub returns : goal.returns
returns c = handled_end c.loop-handler.exits _ c.args.handlers.now c.args.place c.loop-handler.handler-index (omega arith) c.loop-handler.invariant
