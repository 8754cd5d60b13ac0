use Rattle.kilim_isolation.proofs.Inside.{exit_inside}
use Rattle.kilim_isolation.proofs.machine.WalkMoves.step.Goals as goal

pub step-requires-clause-exit : goal.step-requires-clause-exit
step-requires-clause-exit c = exit_inside c.args.self.now.method.now c.args.place c.args.exit c.args.self.now.whole c.requires.exit

pub returns-in-Ok-clause-fits : goal.returns-in-Ok-clause-fits
returns-in-Ok-clause-fits c = exit_inside c.args.self.now.method.now c.args.place c.args.exit c.args.self.now.whole c.requires.exit
