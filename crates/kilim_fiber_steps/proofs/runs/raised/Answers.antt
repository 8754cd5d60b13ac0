use Rattle.kilim_fiber_steps.proofs.Catching.{raised_end, raised_on}
use Rattle.kilim_fiber_steps.proofs.runs.raised.Goals as goal

pub returns-in-Some-clause-settles : goal.returns-in-Some-clause-settles
returns-in-Some-clause-settles c m top below h is at same =
    raised_on c.args.program.now top below c.args.frames.now at m c.args.cause h c.raise_in.new.frames is c.args.heap.now c.raise_in.new.heap same c.in-Some.name (rw c.in-Some.is at c.in-Ok.ensures.raised)

pub returns-in-None-clause-settles : goal.returns-in-None-clause-settles
returns-in-None-clause-settles c m top below h is at same =
    let told = rw c.in-None.is at c.in-Ok.ensures.raised in
    raised_end c.args.program.now top below c.args.frames.now at m c.args.cause h c.raise_in.new.frames is told.1
