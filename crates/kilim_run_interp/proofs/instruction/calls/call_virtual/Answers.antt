use Rattle.std.proofs.Common.{◌≡◌, ◌∙◌, sym, true, Some}
use Rattle.kilim_program.specs.Names.{method_at}
use Rattle.kilim_run_machine.specs.Natives.{is_text_method}
use Rattle.kilim_run_interp.proofs.instruction.Invokes.{text_row}
use Rattle.kilim_run_interp.proofs.instruction.calls.call_virtual.Goals as goal

pub returns-then-is_text_method-clause-step : goal.returns-then-is_text_method-clause-step
returns-then-is_text_method-clause-step c =
    let there : method_at c.args.program.now c.args.method ≡ Some c.in-Some.named.now = sym c.in-Some.ensures in
    let text : is_text_method c.args.program.now c.in-Some.named.now ≡ true = sym c.is_text_method.ensures ∙ c.if-is_text_method.true in
    rw (text_row c.args.program.now c.args.own.now c.args.method c.in-Some.named.now c.args.next c.args.frame.now.locals c.args.frame.now.stack.values c.args.heap.now there text) c.call_text.ensures.step

pub call_chosen-requires-clause-there : goal.call_chosen-requires-clause-there
call_chosen-requires-clause-there c = sym c.in-Some.ensures
