use Rattle.std.proofs.Common.{arith}
use Rattle.kilim_weave_method.proofs.woven_each.Counting.{all_marked, one_more}
use Rattle.kilim_weave_method.proofs.woven_each.extended.all_counted.Goals as goal

pub loop-preserved : goal.loop-preserved
loop-preserved c = one_more c.loop.counter c.loop.all c.push.new.self c.loop.invariant c.in-Ok.ensures.ok

pub returns : goal.returns
returns c = all_marked c.args.method.now.code c.loop.counter c.loop.all (omega arith) c.loop.invariant
