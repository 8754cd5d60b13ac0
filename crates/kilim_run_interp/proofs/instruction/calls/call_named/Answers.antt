use Rattle.std.proofs.Common.{◌≡◌, ◌∙◌, sym, ap, refl, ◌+◌, Some, None, length, take, drop, reverse, slice_get, option_copied, arith}
use Rattle.kilim_program.specs.declared.names.MethodId.{MethodId}
use Rattle.kilim_program.specs.Names.{method_at}
use Rattle.kilim_run_machine.specs.Does.{special}
use Rattle.kilim_run_rows.specs.Outcome.{is_stuck}
use Rattle.kilim_run_interp.proofs.instruction.Invokes.{special_there, special_null, special_goes, special_keeps, special_gives, special_asks, is_there, calls_code}
use Rattle.kilim_run_interp.proofs.instruction.calls.call_named.Goals as goal

pub unreachable-requires : goal.unreachable-requires
unreachable-requires c =
    let less = special_there c.args.program.now c.args.own.now c.args.method c.args.named.now c.args.next c.args.frame.now.locals c.args.frame.now.stack.values c.args.heap.now c.requires.there c.requires.other c.requires.fine in
    omega (arith, less, c.len-count.ensures, c.len-height.ensures, c.if-count-height.true)

pub returns-then-not-target-clause-step : goal.returns-then-not-target-clause-step
returns-then-not-target-clause-step c =
    let at : slice_get c.args.frame.now.stack.values (length c.args.named.now.params) ≡ Some c.peek.result.now = rw c.len-count.ensures at c.peek.ensures in
    let less = special_there c.args.program.now c.args.own.now c.args.method c.args.named.now c.args.next c.args.frame.now.locals c.args.frame.now.stack.values c.args.heap.now c.requires.there c.requires.other c.requires.fine in
    let row = special_goes c.args.program.now c.args.own.now c.args.method c.args.named.now c.args.next c.args.frame.now.locals c.args.frame.now.stack.values c.args.heap.now c.requires.there c.peek.result.now c.requires.other at (sym c.is_none.ensures ∙ c.if-is_none.false) c.requires.fine in
    let there : method_at c.args.program.now (special c.args.program.now c.args.own.now c.args.named.now c.args.method) ≡ Some c.in-Some.target.now = ap (λ (id : MethodId). method_at c.args.program.now id) (sym c.special-id.ensures) ∙ sym c.in-Some.ensures in
    let calls = calls_code (method_at c.args.program.now (special c.args.program.now c.args.own.now c.args.named.now c.args.method)) c.in-Some.target.now (special c.args.program.now c.args.own.now c.args.named.now c.args.method)
    (reverse (take (length c.args.named.now.params + 1) c.args.frame.now.stack.values)) c.args.next c.args.frame.now.locals (drop (length c.args.named.now.params + 1) c.args.frame.now.stack.values) c.args.heap.now there c.if-not-target.true in
    rw (c.len-count.ensures, c.special-id.ensures) (omega (arith, less), row ∙ calls, record { frame = refl; heap = refl })

pub returns-clause-step : goal.returns-clause-step
returns-clause-step c =
    let at : slice_get c.args.frame.now.stack.values (length c.args.named.now.params) ≡ Some c.peek.result.now = rw c.len-count.ensures at c.peek.ensures in
    let less = special_there c.args.program.now c.args.own.now c.args.method c.args.named.now c.args.next c.args.frame.now.locals c.args.frame.now.stack.values c.args.heap.now c.requires.there c.requires.other c.requires.fine in
    let there : method_at c.args.program.now (special c.args.program.now c.args.own.now c.args.named.now c.args.method) ≡ Some c.in-Some.target.now = ap (λ (id : MethodId). method_at c.args.program.now id) (sym c.special-id.ensures) ∙ sym c.in-Some.ensures in
    let row = special_asks c.args.program.now c.args.own.now c.args.method c.args.named.now c.args.next c.args.frame.now.locals c.args.frame.now.stack.values c.args.heap.now c.requires.there c.peek.result.now c.requires.other at (sym c.is_none.ensures ∙ c.if-is_none.false) c.requires.fine c.in-Some.target.now there c.if-not-target.false (sym c.is_message_constructor.ensures ∙ c.if-is_message_constructor.false) (sym c.is_get_message.ensures ∙ c.if-is_get_message.false) in
    rw (c.len-count.ensures, c.special-id.ensures) (omega (arith, less), row, record { frame = refl; heap = refl })

pub keep_message-requires-clause-fine : goal.keep_message-requires-clause-fine
keep_message-requires-clause-fine c =
    let at : slice_get c.args.frame.now.stack.values (length c.args.named.now.params) ≡ Some c.peek.result.now = rw c.len-count.ensures at c.peek.ensures in
    let there : method_at c.args.program.now (special c.args.program.now c.args.own.now c.args.named.now c.args.method) ≡ Some c.in-Some.target.now = ap (λ (id : MethodId). method_at c.args.program.now id) (sym c.special-id.ensures) ∙ sym c.in-Some.ensures in
    let row = special_keeps c.args.program.now c.args.own.now c.args.method c.args.named.now c.args.next c.args.frame.now.locals c.args.frame.now.stack.values c.args.heap.now c.requires.there c.peek.result.now c.requires.other at (sym c.is_none.ensures ∙ c.if-is_none.false) c.requires.fine c.in-Some.target.now there c.if-not-target.false (sym c.is_message_constructor.ensures ∙ c.if-is_message_constructor.true) in
    rw c.len-count.ensures (ap is_stuck (sym row) ∙ c.requires.fine)

pub keep_message-requires-clause-room : goal.keep_message-requires-clause-room
keep_message-requires-clause-room c =
    let at : slice_get c.args.frame.now.stack.values (length c.args.named.now.params) ≡ Some c.peek.result.now = rw c.len-count.ensures at c.peek.ensures in
    let there : method_at c.args.program.now (special c.args.program.now c.args.own.now c.args.named.now c.args.method) ≡ Some c.in-Some.target.now = ap (λ (id : MethodId). method_at c.args.program.now id) (sym c.special-id.ensures) ∙ sym c.in-Some.ensures in
    let row = special_keeps c.args.program.now c.args.own.now c.args.method c.args.named.now c.args.next c.args.frame.now.locals c.args.frame.now.stack.values c.args.heap.now c.requires.there c.peek.result.now c.requires.other at (sym c.is_none.ensures ∙ c.if-is_none.false) c.requires.fine c.in-Some.target.now there c.if-not-target.false (sym c.is_message_constructor.ensures ∙ c.if-is_message_constructor.true) in
    rw c.len-count.ensures (rw row at c.requires.room)

pub returns-then-is_message_constructor-clause-step : goal.returns-then-is_message_constructor-clause-step
returns-then-is_message_constructor-clause-step c =
    let at : slice_get c.args.frame.now.stack.values (length c.args.named.now.params) ≡ Some c.peek.result.now = rw c.len-count.ensures at c.peek.ensures in
    let there : method_at c.args.program.now (special c.args.program.now c.args.own.now c.args.named.now c.args.method) ≡ Some c.in-Some.target.now = ap (λ (id : MethodId). method_at c.args.program.now id) (sym c.special-id.ensures) ∙ sym c.in-Some.ensures in
    let row = special_keeps c.args.program.now c.args.own.now c.args.method c.args.named.now c.args.next c.args.frame.now.locals c.args.frame.now.stack.values c.args.heap.now c.requires.there c.peek.result.now c.requires.other at (sym c.is_none.ensures ∙ c.if-is_none.false) c.requires.fine c.in-Some.target.now there c.if-not-target.false (sym c.is_message_constructor.ensures ∙ c.if-is_message_constructor.true) in
    rw row (rw c.len-count.ensures at c.keep_message.ensures.step)

pub give_message-requires-clause-fine : goal.give_message-requires-clause-fine
give_message-requires-clause-fine c =
    let at : slice_get c.args.frame.now.stack.values (length c.args.named.now.params) ≡ Some c.peek.result.now = rw c.len-count.ensures at c.peek.ensures in
    let there : method_at c.args.program.now (special c.args.program.now c.args.own.now c.args.named.now c.args.method) ≡ Some c.in-Some.target.now = ap (λ (id : MethodId). method_at c.args.program.now id) (sym c.special-id.ensures) ∙ sym c.in-Some.ensures in
    let row = special_gives c.args.program.now c.args.own.now c.args.method c.args.named.now c.args.next c.args.frame.now.locals c.args.frame.now.stack.values c.args.heap.now c.requires.there c.peek.result.now c.requires.other at (sym c.is_none.ensures ∙ c.if-is_none.false) c.requires.fine c.in-Some.target.now there c.if-not-target.false (sym c.is_message_constructor.ensures ∙ c.if-is_message_constructor.false) (sym c.is_get_message.ensures ∙ c.if-is_get_message.true) in
    rw c.len-count.ensures (ap is_stuck (sym row) ∙ c.requires.fine)

pub give_message-requires-clause-room : goal.give_message-requires-clause-room
give_message-requires-clause-room c =
    let at : slice_get c.args.frame.now.stack.values (length c.args.named.now.params) ≡ Some c.peek.result.now = rw c.len-count.ensures at c.peek.ensures in
    let there : method_at c.args.program.now (special c.args.program.now c.args.own.now c.args.named.now c.args.method) ≡ Some c.in-Some.target.now = ap (λ (id : MethodId). method_at c.args.program.now id) (sym c.special-id.ensures) ∙ sym c.in-Some.ensures in
    let row = special_gives c.args.program.now c.args.own.now c.args.method c.args.named.now c.args.next c.args.frame.now.locals c.args.frame.now.stack.values c.args.heap.now c.requires.there c.peek.result.now c.requires.other at (sym c.is_none.ensures ∙ c.if-is_none.false) c.requires.fine c.in-Some.target.now there c.if-not-target.false (sym c.is_message_constructor.ensures ∙ c.if-is_message_constructor.false) (sym c.is_get_message.ensures ∙ c.if-is_get_message.true) in
    rw c.len-count.ensures (rw row at c.requires.room)

pub returns-then-is_get_message-clause-step : goal.returns-then-is_get_message-clause-step
returns-then-is_get_message-clause-step c =
    let at : slice_get c.args.frame.now.stack.values (length c.args.named.now.params) ≡ Some c.peek.result.now = rw c.len-count.ensures at c.peek.ensures in
    let there : method_at c.args.program.now (special c.args.program.now c.args.own.now c.args.named.now c.args.method) ≡ Some c.in-Some.target.now = ap (λ (id : MethodId). method_at c.args.program.now id) (sym c.special-id.ensures) ∙ sym c.in-Some.ensures in
    let row = special_gives c.args.program.now c.args.own.now c.args.method c.args.named.now c.args.next c.args.frame.now.locals c.args.frame.now.stack.values c.args.heap.now c.requires.there c.peek.result.now c.requires.other at (sym c.is_none.ensures ∙ c.if-is_none.false) c.requires.fine c.in-Some.target.now there c.if-not-target.false (sym c.is_message_constructor.ensures ∙ c.if-is_message_constructor.false) (sym c.is_get_message.ensures ∙ c.if-is_get_message.true) in
    rw row (rw c.len-count.ensures at c.give_message.ensures.step)

pub returns-then-is_none-clause-step : goal.returns-then-is_none-clause-step
returns-then-is_none-clause-step c =
    (special_null c.args.program.now c.args.own.now c.args.method c.args.named.now c.args.next c.args.frame.now.locals c.args.frame.now.stack.values c.args.heap.now c.requires.there c.peek.result.now c.requires.other (rw c.len-count.ensures at c.peek.ensures) (sym c.is_none.ensures ∙ c.if-is_none.true) c.requires.fine, refl, refl, refl)

pub unreachable-requires-in_default : goal.unreachable-requires-in_default
unreachable-requires-in_default c =
    let at : slice_get c.args.frame.now.stack.values (length c.args.named.now.params) ≡ Some c.peek.result.now = rw c.len-count.ensures at c.peek.ensures in
    let row = special_goes c.args.program.now c.args.own.now c.args.method c.args.named.now c.args.next c.args.frame.now.locals c.args.frame.now.stack.values c.args.heap.now c.requires.there c.peek.result.now c.requires.other at (sym c.is_none.ensures ∙ c.if-is_none.false) c.requires.fine in
    let none : method_at c.args.program.now (special c.args.program.now c.args.own.now c.args.named.now c.args.method) ≡ None = ap (λ (id : MethodId). method_at c.args.program.now id) (sym c.special-id.ensures) ∙ (sym c.method_at.ensures ∙ ap option_copied c.in_default.is) in
    is_there (method_at c.args.program.now (special c.args.program.now c.args.own.now c.args.named.now c.args.method)) (special c.args.program.now c.args.own.now c.args.named.now c.args.method)
    (reverse (take (length c.args.named.now.params + 1) c.args.frame.now.stack.values)) c.args.next c.args.frame.now.locals (drop (length c.args.named.now.params + 1) c.args.frame.now.stack.values) c.args.heap.now
    (ap is_stuck (sym row) ∙ c.requires.fine) none
