use Rattle.std.proofs.Common.{◌∙◌, sym, ap, refl, arith}
use Rattle.kilim_run_interp.specs.declared.instruction.calls.Target.TheVariants.{NoReceiver, WithCode, BuiltIn, KeepsMessage, GivesMessage, Nowhere}
use Rattle.kilim_run_rows.specs.Outcome.{is_stuck}
use Rattle.kilim_run_interp.specs.instruction.Calls.{Reaches}
use Rattle.kilim_run_interp.proofs.instruction.Invokes.{virtual_there, virtual_found, virtual_calls, virtual_asks, virtual_keeps, virtual_gives, virtual_null, virtual_nowhere}
use Rattle.kilim_run_interp.proofs.instruction.calls.call_chosen.Goals as goal

pub unreachable-requires : goal.unreachable-requires
unreachable-requires c =
    let less = virtual_there c.args.program.now c.args.own.now c.args.method c.args.named.now c.args.next c.args.frame.now.locals c.args.frame.now.stack.values c.args.heap.now c.requires.there c.requires.other c.requires.fine in
    omega (arith, less, c.len-count.ensures, c.len-height.ensures, c.if-count-height.true)

pub reached-requires : goal.reached-requires
reached-requires c = virtual_found c.args.program.now c.args.own.now c.args.method c.args.named.now c.args.next c.args.frame.now.locals c.args.frame.now.stack.values c.args.heap.now c.requires.there c.peek.result.now c.requires.other (rw c.len-count.ensures at c.peek.ensures) c.requires.fine

pub returns-in-WithCode-clause-step : goal.returns-in-WithCode-clause-step
returns-in-WithCode-clause-step c =
    let less = virtual_there c.args.program.now c.args.own.now c.args.method c.args.named.now c.args.next c.args.frame.now.locals c.args.frame.now.stack.values c.args.heap.now c.requires.there c.requires.other c.requires.fine in
    let reaches : Reaches c.args.program.now c.args.named.now c.args.method c.peek.result.now c.args.heap.now (WithCode c.in-WithCode.id) = rw c.in-WithCode.is at c.reached.ensures in
    let calls = virtual_calls c.args.program.now c.args.own.now c.args.method c.args.named.now c.args.next c.args.frame.now.locals c.args.frame.now.stack.values c.args.heap.now c.requires.there c.peek.result.now c.in-WithCode.id c.requires.other (rw c.len-count.ensures at c.peek.ensures) reaches in
    rw c.len-count.ensures (omega (arith, less), calls, record { frame = refl; heap = refl })

pub returns-in-BuiltIn-clause-step : goal.returns-in-BuiltIn-clause-step
returns-in-BuiltIn-clause-step c =
    let less = virtual_there c.args.program.now c.args.own.now c.args.method c.args.named.now c.args.next c.args.frame.now.locals c.args.frame.now.stack.values c.args.heap.now c.requires.there c.requires.other c.requires.fine in
    let reaches : Reaches c.args.program.now c.args.named.now c.args.method c.peek.result.now c.args.heap.now (BuiltIn c.in-BuiltIn.id) = rw c.in-BuiltIn.is at c.reached.ensures in
    let asks = virtual_asks c.args.program.now c.args.own.now c.args.method c.args.named.now c.args.next c.args.frame.now.locals c.args.frame.now.stack.values c.args.heap.now c.requires.there c.peek.result.now c.in-BuiltIn.id c.requires.other (rw c.len-count.ensures at c.peek.ensures) reaches in
    rw c.len-count.ensures (omega (arith, less), asks, record { frame = refl; heap = refl })

pub returns-in-NoReceiver-clause-step : goal.returns-in-NoReceiver-clause-step
returns-in-NoReceiver-clause-step c =
    let reaches : Reaches c.args.program.now c.args.named.now c.args.method c.peek.result.now c.args.heap.now NoReceiver = rw c.in-NoReceiver.is at c.reached.ensures in
    (virtual_null c.args.program.now c.args.own.now c.args.method c.args.named.now c.args.next c.args.frame.now.locals c.args.frame.now.stack.values c.args.heap.now c.requires.there c.peek.result.now c.requires.other (rw c.len-count.ensures at c.peek.ensures) reaches, refl, refl, refl)

pub unreachable-requires-in-Nowhere : goal.unreachable-requires-in-Nowhere
unreachable-requires-in-Nowhere c =
    let reaches : Reaches c.args.program.now c.args.named.now c.args.method c.peek.result.now c.args.heap.now Nowhere = rw c.in-Nowhere.is at c.reached.ensures in
    virtual_nowhere c.args.program.now c.args.own.now c.args.method c.args.named.now c.args.next c.args.frame.now.locals c.args.frame.now.stack.values c.args.heap.now c.requires.there c.peek.result.now c.requires.other (rw c.len-count.ensures at c.peek.ensures) reaches c.requires.fine

pub keep_message-requires-clause-fine : goal.keep_message-requires-clause-fine
keep_message-requires-clause-fine c =
    let reaches : Reaches c.args.program.now c.args.named.now c.args.method c.peek.result.now c.args.heap.now KeepsMessage = rw c.in-KeepsMessage.is at c.reached.ensures in
    let row = virtual_keeps c.args.program.now c.args.own.now c.args.method c.args.named.now c.args.next c.args.frame.now.locals c.args.frame.now.stack.values c.args.heap.now c.requires.there c.peek.result.now c.requires.other (rw c.len-count.ensures at c.peek.ensures) reaches in
    rw c.len-count.ensures (ap is_stuck (sym row) ∙ c.requires.fine)

pub keep_message-requires-clause-room : goal.keep_message-requires-clause-room
keep_message-requires-clause-room c =
    let reaches : Reaches c.args.program.now c.args.named.now c.args.method c.peek.result.now c.args.heap.now KeepsMessage = rw c.in-KeepsMessage.is at c.reached.ensures in
    let row = virtual_keeps c.args.program.now c.args.own.now c.args.method c.args.named.now c.args.next c.args.frame.now.locals c.args.frame.now.stack.values c.args.heap.now c.requires.there c.peek.result.now c.requires.other (rw c.len-count.ensures at c.peek.ensures) reaches in
    rw c.len-count.ensures (rw row at c.requires.room)

pub returns-in-KeepsMessage-clause-step : goal.returns-in-KeepsMessage-clause-step
returns-in-KeepsMessage-clause-step c =
    let reaches : Reaches c.args.program.now c.args.named.now c.args.method c.peek.result.now c.args.heap.now KeepsMessage = rw c.in-KeepsMessage.is at c.reached.ensures in
    let row = virtual_keeps c.args.program.now c.args.own.now c.args.method c.args.named.now c.args.next c.args.frame.now.locals c.args.frame.now.stack.values c.args.heap.now c.requires.there c.peek.result.now c.requires.other (rw c.len-count.ensures at c.peek.ensures) reaches in
    rw row (rw c.len-count.ensures at c.keep_message.ensures.step)

pub give_message-requires-clause-fine : goal.give_message-requires-clause-fine
give_message-requires-clause-fine c =
    let reaches : Reaches c.args.program.now c.args.named.now c.args.method c.peek.result.now c.args.heap.now GivesMessage = rw c.in-GivesMessage.is at c.reached.ensures in
    let row = virtual_gives c.args.program.now c.args.own.now c.args.method c.args.named.now c.args.next c.args.frame.now.locals c.args.frame.now.stack.values c.args.heap.now c.requires.there c.peek.result.now c.requires.other (rw c.len-count.ensures at c.peek.ensures) reaches in
    rw c.len-count.ensures (ap is_stuck (sym row) ∙ c.requires.fine)

pub give_message-requires-clause-room : goal.give_message-requires-clause-room
give_message-requires-clause-room c =
    let reaches : Reaches c.args.program.now c.args.named.now c.args.method c.peek.result.now c.args.heap.now GivesMessage = rw c.in-GivesMessage.is at c.reached.ensures in
    let row = virtual_gives c.args.program.now c.args.own.now c.args.method c.args.named.now c.args.next c.args.frame.now.locals c.args.frame.now.stack.values c.args.heap.now c.requires.there c.peek.result.now c.requires.other (rw c.len-count.ensures at c.peek.ensures) reaches in
    rw c.len-count.ensures (rw row at c.requires.room)

pub returns-in-GivesMessage-clause-step : goal.returns-in-GivesMessage-clause-step
returns-in-GivesMessage-clause-step c =
    let reaches : Reaches c.args.program.now c.args.named.now c.args.method c.peek.result.now c.args.heap.now GivesMessage = rw c.in-GivesMessage.is at c.reached.ensures in
    let row = virtual_gives c.args.program.now c.args.own.now c.args.method c.args.named.now c.args.next c.args.frame.now.locals c.args.frame.now.stack.values c.args.heap.now c.requires.there c.peek.result.now c.requires.other (rw c.len-count.ensures at c.peek.ensures) reaches in
    rw row (rw c.len-count.ensures at c.give_message.ensures.step)
