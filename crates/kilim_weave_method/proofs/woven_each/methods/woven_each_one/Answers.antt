use Rattle.std.proofs.Common.{List, subst, arith}
use Rattle.std.proofs.lemmas.List.{take_all}
use Rattle.kilim_program.specs.declared.class.Method.{Method}
use Rattle.kilim_weave_method.specs.woven_each.Each.{IsEachWoven}
use Rattle.kilim_weave_method.proofs.woven_each.methods.woven_each_one.Goals as goal

pub loop-at-preserved : goal.loop-at-preserved
loop-at-preserved c = c.in-Ok.ensures c.loop-at.invariant

pub returns : goal.returns
returns c =
    subst (λ (ms : List Method). IsEachWoven c.args.program.now ms c.loop-at.all.methods c.loop-at.all.counted)
    (take_all c.loop-at.at c.args.program.now.methods (omega arith)) c.loop-at.invariant
