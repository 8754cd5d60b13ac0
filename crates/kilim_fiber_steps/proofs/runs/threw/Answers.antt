use Rattle.kilim_fiber_steps.proofs.Catching.{thrown_end, thrown_on}
use Rattle.kilim_fiber_steps.proofs.runs.threw.Goals as goal

pub returns-then-caught-clause-settles : goal.returns-then-caught-clause-settles
returns-then-caught-clause-settles c m top below h k is at same =
    thrown_on c.args.program.now top below c.args.frames.now at m c.args.cause h c.throw.new.frames c.args.object c.args.class is k same (rw c.if-caught.true at c.in-Ok.ensures.thrown)

pub returns-else-caught-clause-settles : goal.returns-else-caught-clause-settles
returns-else-caught-clause-settles c m top below h k is at same =
    thrown_end c.args.program.now top below c.args.frames.now at m c.args.cause h c.throw.new.frames c.args.object c.args.class is (rw c.if-caught.false at c.in-Ok.ensures.thrown)
