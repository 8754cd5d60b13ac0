use Rattle.std.proofs.Common.{refl, arith, None}
use Rattle.std.proofs.lemmas.Grind.{common_steps}
use Rattle.kilim_isolation.proofs.Loops.{same_end, same_on}
use Rattle.kilim_isolation.proofs.shape.same_slots.Goals as goal

pub returns : goal.returns
returns c = (λ _. same_end c.args.a.now c.args.b.now c.loop-k.k (omega arith) (omega arith) c.loop-k.invariant, λ _. refl)

pub loop-k-preserved : goal.loop-k-preserved
loop-k-preserved c = same_on c.args.a.now c.args.b.now c.loop-k.k None c.loop-k-test.true (omega arith) c.loop-k.invariant (grind (arith, common_steps))
