use Rattle.std.proofs.Common.{◌∙◌, ◌≤◌, ◌+◌, length, refl, sym, ap, Some, arith}
use Rattle.kilim_run_interp.proofs.instruction.Reaching.{asked_fiber, asked_mailbox, called_own, own_there}
use Rattle.kilim_run_interp.proofs.instruction.reached.told_virtual.Goals as goal

pub returns-in-Some-on_fiber : goal.returns-in-Some-on_fiber
returns-in-Some-on_fiber c =
    let is = c.requires.table c.args.method.0 c.in-Some.reach.now (sym c.in-Some.ensures) in
    let less : c.in-Some.reach.now.count + 1 ≤ length c.args.frame.now.stack.values = omega (arith, c.len-height.ensures, c.if-count-height.false) in
    let e = asked_fiber c.args.program.now c.args.own.now c.args.method c.in-Some.reach.now c.args.next c.args.frame.now.locals c.args.frame.now.stack.values c.args.heap.now is c.in-Some-on_fiber.id c.in-Some-on_fiber.is (c.peek.ensures ∙ ap Some c.in-Fiber.is) in
    (less, e, record { frame = refl; heap = refl })

pub returns-in-Some-on_mailbox : goal.returns-in-Some-on_mailbox
returns-in-Some-on_mailbox c =
    let is = c.requires.table c.args.method.0 c.in-Some.reach.now (sym c.in-Some.ensures) in
    let less : c.in-Some.reach.now.count + 1 ≤ length c.args.frame.now.stack.values = omega (arith, c.len-height.ensures, c.if-count-height.false) in
    let e = asked_mailbox c.args.program.now c.args.own.now c.args.method c.in-Some.reach.now c.args.next c.args.frame.now.locals c.args.frame.now.stack.values c.args.heap.now is c.in-Some-on_mailbox.id c.in-Box.name c.in-Some-on_mailbox.is (c.peek.ensures ∙ ap Some c.in-Box.is) in
    (less, e, record { frame = refl; heap = refl })

pub class-requires : goal.class-requires
class-requires c =
    let is = c.requires.table c.args.method.0 c.in-Some.reach.now (sym c.in-Some.ensures) in
    own_there c.args.program.now c.args.own.now c.args.method c.in-Some.reach.now c.args.next c.args.frame.now.locals c.args.frame.now.stack.values c.args.heap.now is c.in-Some-on_own.class c.in-Some-on_own.id c.in-Ref.at c.in-Some-on_own.is (c.peek.ensures ∙ ap Some c.in-Ref.is) c.requires.fine

pub returns-then-is_of : goal.returns-then-is_of
returns-then-is_of c =
    let is = c.requires.table c.args.method.0 c.in-Some.reach.now (sym c.in-Some.ensures) in
    let less : c.in-Some.reach.now.count + 1 ≤ length c.args.frame.now.stack.values = omega (arith, c.len-height.ensures, c.if-count-height.false) in
    let own = c.class.ensures ∙ ap Some (c.is_of.ensures c.if-is_of.true) in
    let e = called_own c.args.program.now c.args.own.now c.args.method c.in-Some.reach.now c.args.next c.args.frame.now.locals c.args.frame.now.stack.values c.args.heap.now is c.in-Some-on_own.class c.in-Some-on_own.id c.in-Ref.at c.in-Some-on_own.is (c.peek.ensures ∙ ap Some c.in-Ref.is) own in
    (less, e, record { frame = refl; heap = refl })
