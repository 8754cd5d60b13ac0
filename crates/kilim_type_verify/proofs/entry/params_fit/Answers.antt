use Rattle.std.proofs.Common.{arith}
use Rattle.kilim_type_verify.proofs.Begins.{slots_on, slots_pass}
use Rattle.kilim_type_verify.proofs.entry.params_fit.Goals as goal

pub returns-then-taken-left : goal.returns-then-taken-left
returns-then-taken-left c = grind (arith, slots_on, slots_pass)

pub loop-ty-preserved : goal.loop-ty-preserved
loop-ty-preserved c = grind (arith, slots_on)
