use Rattle.std.proofs.Common.{take}
use Rattle.kilim_weave_method.specs.woven_each.Each.{IsEachWoven}
use Rattle.kilim_weave_method.proofs.woven_each.methods.woven_each_one.Given as goal

abbrev pub invariant-loop-at : goal.invariant-loop-at
invariant-loop-at l = IsEachWoven l.program (take l.at l.program.methods) l.all.methods l.all.counted
