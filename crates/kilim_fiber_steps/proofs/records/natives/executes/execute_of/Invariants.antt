use Rattle.std.proofs.Common.{◌≡◌, drop}
use Rattle.kilim_program.specs.Names.{first_that}
use Rattle.kilim_program.specs.Members.{is_task_execute}
use Rattle.kilim_fiber_steps.proofs.records.natives.executes.execute_of.Given as goal

abbrev pub invariant-loop-method : goal.invariant-loop-method
invariant-loop-method l = first_that is_task_execute (drop l.method-index l.program.methods) ≡ first_that is_task_execute l.fn.program.methods
