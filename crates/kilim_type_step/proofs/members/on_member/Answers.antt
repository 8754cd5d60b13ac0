use Rattle.std.proofs.Common.{sym, subst}
use Rattle.kilim_program.specs.declared.instr.Instr.{Instr}
use Rattle.kilim_type_spec.specs.Step.{type_step, row}
use Rattle.kilim_type_step.specs.Answers.{answers}
use Rattle.kilim_type_step.proofs.Called.{constructor_called}
use Rattle.kilim_type_step.proofs.members.on_member.Goals as goal

pub returns-then-is_constructor : goal.returns-then-is_constructor
unfolding row
returns-then-is_constructor c =
    let P : Instr → Type 0 = λ i. answers (type_step c.args.program.now c.args.method.now c.args.at i c.args.state.now) c.on_constructor.result c.on_constructor.new.state in
    subst P (sym c.in-Invokespecial.is)
    (constructor_called c.args.program.now c.args.method.now c.in-Invokespecial.id c.in-Some-method_at-2.callee.now c.args.at c.args.state.now c.on_constructor.new.state c.on_constructor.result
    (sym c.in-Some-method_at-2.ensures) (sym c.if-is_constructor.ensures) (c.on_constructor.ensures c.in-Invokespecial.id))
