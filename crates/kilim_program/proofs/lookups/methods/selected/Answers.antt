use Rattle.std.proofs.Common.{◌≡◌, ◌∙◌, Some, None, arith}
use Rattle.kilim_program.specs.Names.{class_at, first_that, method_at}
use Rattle.kilim_program.specs.Same.{answers}
use Rattle.kilim_program.proofs.lookups.Steps.{selected_step}
use Rattle.kilim_program.proofs.lookups.methods.selected.Goals as goal

pub loop-left-preserved : goal.loop-left-preserved
loop-left-preserved c =
    let there : class_at c.args.program.now c.loop-left.at ≡ Some c.in-Some.found.now = grind (arith, c.in-Some.ensures, c.class_at.ensures) in
    let none : first_that (λ m. answers c.args.named.now (method_at c.args.program.now m)) c.in-Some.found.now.methods ≡ None = grind (arith, c.first_answer.ensures, c.in_default-first_answer.ensures, c.as_slice.ensures, c.in_default-first_answer.is) in
    selected_step c.args.program.now c.args.named.now c.loop-left.left c.loop-left.at c.in-Some.found.now c.in-Some-superclass.up c.loop-left-test.true there c.in-Some-superclass.is none ∙ c.loop-left.invariant
