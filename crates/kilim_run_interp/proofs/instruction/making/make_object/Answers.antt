use Rattle.std.proofs.Common.{◌≡◌, ◌∙◌, sym, ap}
use Rattle.kilim_program.specs.declared.instr.Instr.TheVariants.{New}
use Rattle.kilim_run_state.specs.declared.value.Object.{Object}
use Rattle.kilim_run_machine.specs.Effect.{Makes}
use Rattle.kilim_run_machine.specs.Does.{does}
use Rattle.kilim_run_state.specs.Objects.{new_object}
use Rattle.kilim_run_interp.proofs.instruction.News.{made_by, object_row, room_for}
use Rattle.kilim_run_interp.proofs.instruction.making.make_object.Goals as goal

pub add_object-requires : goal.add_object-requires
add_object-requires c =
    let row = object_row c.args.program.now c.args.own.now c.args.class c.args.next c.args.frame.now.locals c.args.frame.now.stack.values c.args.heap.now (sym c.is_mailbox.ensures ∙ c.if-is_mailbox.false) in
    room_for (does c.args.program.now c.args.own.now (New c.args.class) c.args.next c.args.frame.now.locals c.args.frame.now.stack.values c.args.heap.now) (new_object c.args.program.now c.args.class)
    c.args.next c.args.frame.now.stack.room c.args.frame.now.locals c.args.frame.now.stack.values c.args.heap.now row c.requires.room

pub returns-in-Some-clause-step : goal.returns-in-Some-clause-step
returns-in-Some-clause-step c =
    let row = object_row c.args.program.now c.args.own.now c.args.class c.args.next c.args.frame.now.locals c.args.frame.now.stack.values c.args.heap.now (sym c.is_mailbox.ensures ∙ c.if-is_mailbox.false) in
    let object : c.in-Ok.object ≡ new_object c.args.program.now c.args.class = rw c.in-Ok.is at c.new_object.ensures in
    made_by (does c.args.program.now c.args.own.now (New c.args.class) c.args.next c.args.frame.now.locals c.args.frame.now.stack.values c.args.heap.now)
    c.in-Ok.object c.args.next c.in-Some.at c.args.frame.now c.add_object.new.frame c.args.heap.now c.add_object.new.heap
    (row ∙ ap (λ (o : Object). Makes o c.args.next c.args.frame.now.locals c.args.frame.now.stack.values c.args.heap.now) (sym object))
    (rw c.in-Some.is at c.add_object.ensures.added)
