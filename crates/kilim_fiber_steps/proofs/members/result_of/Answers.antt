use Rattle.std.proofs.Common.{refl}
use Rattle.kilim_program.specs.declared.value.Value.TheVariants.{Fiber}
use Rattle.kilim_fiber_steps.specs.declared.records.natives.natives.Member.TheVariants as code
use Rattle.kilim_fiber_steps.proofs.Operands.{result_by}
use Rattle.kilim_fiber_steps.proofs.members.result_of.Goals as goal

pub returns-in-Ok : goal.returns-in-Ok
returns-in-Ok c = result_by c.args.member code.Down c.args.records.now _ Fiber _ c.in-Down.is c.in-Ok.ensures refl

pub returns-in-Some-restore : goal.returns-in-Some-restore
returns-in-Some-restore c = result_by c.args.member code.Restore c.args.records.now _ c.in-Some-restore.value _ c.in-Restore.is c.in-Some-restore.ensures refl
