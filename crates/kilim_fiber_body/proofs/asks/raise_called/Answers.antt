use Rattle.kilim_fiber_body.proofs.Raised.{not_raised, raised_on}
use Rattle.kilim_fiber_body.proofs.asks.raise_called.Goals as goal

pub returns-in-Some-caught-clause-comes : goal.returns-in-Some-caught-clause-comes
returns-in-Some-caught-clause-comes c =
    raised_on c.args.program.now c.args.cause c.args.body.now c.in-Some.frames c.in-Some.is c.in-Some-caught.name c.raise_past.new.frames c.raise_past.new.heap (rw c.in-Some-caught.is at c.in-Ok.ensures.raised)

pub returns-in-None-clause-comes : goal.returns-in-None-clause-comes
returns-in-None-clause-comes c =
    let told = rw c.in-None.is at c.in-Ok.ensures.raised in
    not_raised c.args.program.now c.args.cause c.args.body.now c.in-Some.frames c.in-Some.is _ told.1
