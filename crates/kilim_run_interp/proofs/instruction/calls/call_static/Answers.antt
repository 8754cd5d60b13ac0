use Rattle.std.proofs.Common.{◌≡◌, ◌∙◌, sym, refl, true, false, Some}
use Rattle.kilim_program.specs.Names.{method_at}
use Rattle.kilim_run_machine.specs.Natives.{is_handed_out}
use Rattle.kilim_run_interp.proofs.instruction.Invokes.{static_asks, static_calls}
use Rattle.kilim_run_interp.proofs.instruction.calls.call_static.Goals as goal

pub returns-then-is_handed_out-clause-step : goal.returns-then-is_handed_out-clause-step
returns-then-is_handed_out-clause-step c =
    let there : method_at c.args.program.now c.args.method ≡ Some c.in-Some.named.now = sym c.in-Some.ensures in
    let handed : is_handed_out c.args.program.now c.in-Some.named.now ≡ true = sym c.is_handed_out.ensures ∙ c.if-is_handed_out.true in
    let e = static_asks c.args.program.now c.args.own.now c.args.method c.in-Some.named.now c.args.next c.args.frame.now.locals c.args.frame.now.stack.values c.args.heap.now there handed c.requires.fine in
    rw c.len-count.ensures (e.0, e.1, record { frame = refl; heap = refl })

pub returns-clause-step : goal.returns-clause-step
returns-clause-step c =
    let there : method_at c.args.program.now c.args.method ≡ Some c.in-Some.named.now = sym c.in-Some.ensures in
    let other : is_handed_out c.args.program.now c.in-Some.named.now ≡ false = sym c.is_handed_out.ensures ∙ c.if-is_handed_out.false in
    let e = static_calls c.args.program.now c.args.own.now c.args.method c.in-Some.named.now c.args.next c.args.frame.now.locals c.args.frame.now.stack.values c.args.heap.now there other c.if-named.false c.requires.fine in
    rw c.len-count.ensures (e.0, e.1, record { frame = refl; heap = refl })
