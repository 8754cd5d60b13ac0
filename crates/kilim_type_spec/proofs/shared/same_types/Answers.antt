use Rattle.std.proofs.Common.{refl, arith}
use Rattle.std.proofs.lemmas.Grind.{common_steps}
use Rattle.kilim_program.specs.declared.verified.VType.TheVariants.{Top}
use Rattle.kilim_type_spec.proofs.Joined.{same_end, same_on}
use Rattle.kilim_type_spec.proofs.shared.same_types.Goals as goal

pub returns : goal.returns
returns c = (λ _. same_end c.args.one.now c.args.other.now c.loop-at.at (omega arith) (omega arith) c.loop-at.invariant, λ _. refl)

pub loop-at-preserved : goal.loop-at-preserved
loop-at-preserved c = same_on c.args.one.now c.args.other.now c.loop-at.at Top c.loop-at-test.true (omega arith) c.loop-at.invariant (grind (arith, common_steps))
