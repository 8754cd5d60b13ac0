use Rattle.std.proofs.Common.{refl, ◌≡◌, ◌∙◌, sym, ap, rules, FitsSigned, w32, pos, List, ◌∷◌, false, true, nat_lt, arith}
use Rattle.std.proofs.lemmas.Int.{to_z-of_z}
use Rattle.kilim_program.specs.declared.value.Value.TheVariants.{Int}
use Rattle.kilim_run_state.specs.frames.Stacked.{Stacked}
use Rattle.kilim_run_state.specs.declared.value.Object.{Object}
use Rattle.kilim_run_machine.specs.Effect.{Makes, on_int}
use Rattle.kilim_run_machine.specs.Does.{array_limit, makes_array}
use Rattle.kilim_run_state.specs.Objects.{new_array}
use Rattle.kilim_run_interp.proofs.instruction.News.{made_by, array_row, large_row, room_for}
use Rattle.kilim_run_interp.proofs.instruction.making.make_array.Goals as goal

pub add_object-requires : goal.add_object-requires
add_object-requires c =
    let is : c.args.frame.now.stack.values ≡ Int c.pop_int-size.result ∷ c.pop_int-size.new.self.values = ap (λ (s : Stacked). s.values) c.pop_int-size.ensures in
    let room : c.args.frame.now.stack.room ≡ c.pop_int-size.new.self.room = ap (λ (s : Stacked). s.room) c.pop_int-size.ensures in
    let few : nat_lt array_limit c.length_of-length.result ≡ false = sym c.is_too_long.ensures ∙ c.if-is_too_long.false in
    let fits : FitsSigned w32 c.pop_int-size.result = search rules in
    let size : c.pop_int-size.result ≡ pos c.length_of-length.result = simp to_z-of_z at c.length_of-length.ensures in
    let row = array_row c.args.ty c.args.element.now c.pop_int-size.result c.length_of-length.result c.args.next c.args.frame.now.locals c.args.frame.now.stack.values c.pop_int-size.new.self.values c.args.heap.now is size few in
    let less = room_for (on_int c.args.frame.now.stack.values (λ n rest. makes_array c.args.ty c.args.element.now n c.args.next c.args.frame.now.locals rest c.args.heap.now)) (new_array c.args.ty c.args.element.now c.length_of-length.result)
    c.args.next c.args.frame.now.stack.room c.args.frame.now.locals c.pop_int-size.new.self.values c.args.heap.now row c.requires.room in
    omega (arith, less, room)

pub returns-in-Some-clause-step : goal.returns-in-Some-clause-step
returns-in-Some-clause-step c =
    let is : c.args.frame.now.stack.values ≡ Int c.pop_int-size.result ∷ c.pop_int-size.new.self.values = ap (λ (s : Stacked). s.values) c.pop_int-size.ensures in
    let few : nat_lt array_limit c.length_of-length.result ≡ false = sym c.is_too_long.ensures ∙ c.if-is_too_long.false in
    let fits : FitsSigned w32 c.pop_int-size.result = search rules in
    let size : c.pop_int-size.result ≡ pos c.length_of-length.result = simp to_z-of_z at c.length_of-length.ensures in
    let row = array_row c.args.ty c.args.element.now c.pop_int-size.result c.length_of-length.result c.args.next c.args.frame.now.locals c.args.frame.now.stack.values c.pop_int-size.new.self.values c.args.heap.now is size few in
    let object : c.in-Ok.object ≡ new_array c.args.ty c.args.element.now c.length_of-length.result = rw c.in-Ok.is at c.new_array.ensures in
    made_by (on_int c.args.frame.now.stack.values (λ n rest. makes_array c.args.ty c.args.element.now n c.args.next c.args.frame.now.locals rest c.args.heap.now))
    c.in-Ok.object c.args.next c.in-Some.at (record c.args.frame.now { stack = c.pop_int-size.new.self }) c.add_object.new.frame c.args.heap.now c.add_object.new.heap
    (row ∙ ap (λ (o : Object). Makes o c.args.next c.args.frame.now.locals c.pop_int-size.new.self.values c.args.heap.now) (sym object))
    (rw c.in-Some.is at c.add_object.ensures.added)

pub returns-then-is_too_long-clause-step : goal.returns-then-is_too_long-clause-step
returns-then-is_too_long-clause-step c =
    let is : c.args.frame.now.stack.values ≡ Int c.pop_int-size.result ∷ c.pop_int-size.new.self.values = ap (λ (s : Stacked). s.values) c.pop_int-size.ensures in
    let many : nat_lt array_limit c.length_of-length.result ≡ true = sym c.is_too_long.ensures ∙ c.if-is_too_long.true in
    let fits : FitsSigned w32 c.pop_int-size.result = search rules in
    let size : c.pop_int-size.result ≡ pos c.length_of-length.result = simp to_z-of_z at c.length_of-length.ensures in
    (large_row c.args.ty c.args.element.now c.pop_int-size.result c.length_of-length.result c.args.next c.args.frame.now.locals c.args.frame.now.stack.values c.pop_int-size.new.self.values c.args.heap.now is size many, refl)
