use Rattle.std.proofs.Common.{◌≡◌, ◌∙◌, sym, ap, Some}
use Rattle.kilim_program.specs.Names.{method_at}
use Rattle.kilim_program.specs.declared.names.MethodId.{MethodId}
use Rattle.kilim_run_machine.specs.Does.{chosen}
use Rattle.kilim_run_interp.proofs.instruction.Invokes.{class_is, reaches_built_in}
use Rattle.kilim_run_interp.proofs.instruction.calls.reached.Goals as goal

pub returns-then-target : goal.returns-then-target
returns-then-target c =
    let p = c.args.program.now in
    let there : method_at p (chosen p c.args.named.now c.args.method c.in-Some.ty) ≡ Some c.in-Some-method_at.target.now = ap (λ (id : MethodId). method_at p id) (sym c.chosen-id.ensures) ∙ sym c.in-Some-method_at.ensures in
    rw (c.built_in_target.ensures, c.chosen-id.ensures)
    (reaches_built_in p c.args.named.now c.args.method c.args.receiver.now c.args.heap.now c.in-Some.ty c.in-Some-method_at.target.now
    (λ go. class_is p c.args.receiver.now c.args.heap.now go (Some c.in-Some.ty) (c.in-Ok.ensures ∙ ap Some c.in-Some.is)) there c.if-target.true)
