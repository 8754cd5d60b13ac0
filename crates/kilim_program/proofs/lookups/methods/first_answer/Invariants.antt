use Rattle.std.proofs.Common.{◌≡◌, drop}
use Rattle.kilim_program.specs.Names.{first_that, method_at}
use Rattle.kilim_program.specs.Same.{answers}
use Rattle.kilim_program.proofs.lookups.methods.first_answer.Given as goal

abbrev pub invariant-loop-method : goal.invariant-loop-method
invariant-loop-method l = first_that (λ m. answers l.named (method_at l.program m)) (drop l.method-index l.methods) ≡ first_that (λ m. answers l.fn.named (method_at l.fn.program m)) l.fn.methods
