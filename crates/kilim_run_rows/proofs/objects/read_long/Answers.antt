use Rattle.std.proofs.Common.{◌≡◌, ◌∙◌, ap, FitsSigned, rules, w32, w64, pos, ◌∷◌, Some, None, refl}
use Rattle.std.proofs.lemmas.Int.{to_z-of_z}
use Rattle.kilim_program.specs.declared.value.Value.{Value}
use Rattle.kilim_program.specs.declared.value.Value.TheVariants.{Long}
use Rattle.kilim_run_state.specs.Words.{element_at}
use Rattle.kilim_run_rows.specs.Outcome.{found_in}
use Rattle.kilim_program.specs.declared.instr.Instr.TheVariants.{Laload}
use Rattle.kilim_run_machine.specs.Does.{does}
use Rattle.kilim_run_state.specs.frames.Stacked.{Stacked}
use Rattle.kilim_run_rows.proofs.Space.{space_for}
use Rattle.kilim_run_rows.proofs.Elements.{long_read, no_long}
use Rattle.kilim_run_rows.proofs.objects.read_long.Goals as goal

pub returns-in_default-index_in-clause-step : goal.returns-in_default-index_in-clause-step
returns-in_default-index_in-clause-step c =
    let fits : FitsSigned w32 c.pop_int-i.result = search rules in
    let none : found_in c.args.heap.now c.in-Some.at c.pop_int-i.result ≡ None = simp to_z-of_z at (rw c.in_default-index_in.is at c.index_in.ensures) in
    (no_long c.args.heap.now c.args.frame.now.stack c.pop_int-i.new.self c.pop_object.new.self c.pop_int-i.result c.in-Some.at c.pop_int-i.ensures (rw c.in-Some.is at c.pop_object.ensures) c.args.program.now c.args.own.now c.args.next c.args.frame.now.locals c.requires.fine none, refl, refl, refl)

pub returns-clause-step : goal.returns-clause-step
returns-clause-step c =
    let fits_i : FitsSigned w32 c.pop_int-i.result = search rules in
    let fits_x : FitsSigned w64 c.in-Long.x = search rules in
    let here = rw c.in-Some-index_in.is at c.index_in.ensures in
    let is : c.pop_int-i.result ≡ pos c.in-Some-index_in.index = simp to_z-of_z at here.0 in
    let there : element_at c.args.heap.now c.in-Some.at c.in-Some-index_in.index ≡ Some (Long c.in-Long.x) = c.element.ensures ∙ ap (λ (v : Value). Some v) c.in-Long.is in
    let pushed : c.push.new.self ≡ record c.pop_object.new.self { values = Long c.in-Long.x ∷ c.pop_object.new.self.values } = simp to_z-of_z at c.push.ensures in
    long_read c.args.heap.now c.args.frame.now.stack c.pop_int-i.new.self c.pop_object.new.self c.pop_int-i.result c.in-Some.at c.pop_int-i.ensures (rw c.in-Some.is at c.pop_object.ensures)
    c.args.program.now c.args.own.now c.args.next c.in-Some-index_in.index c.args.frame.now.locals c.push.new.self c.in-Long.x is there pushed

pub push-requires : goal.push-requires
push-requires c =
    let fits_i : FitsSigned w32 c.pop_int-i.result = search rules in
    let here = rw c.in-Some-index_in.is at c.index_in.ensures in
    let is : c.pop_int-i.result ≡ pos c.in-Some-index_in.index = simp to_z-of_z at here.0 in
    let there : element_at c.args.heap.now c.in-Some.at c.in-Some-index_in.index ≡ Some (Long c.in-Long.x) = c.element.ensures ∙ ap (λ (v : Value). Some v) c.in-Long.is in
    let after : Stacked = record c.pop_object.new.self { values = Long c.in-Long.x ∷ c.pop_object.new.self.values } in
    let row = long_read c.args.heap.now c.args.frame.now.stack c.pop_int-i.new.self c.pop_object.new.self c.pop_int-i.result c.in-Some.at c.pop_int-i.ensures (rw c.in-Some.is at c.pop_object.ensures)
    c.args.program.now c.args.own.now c.args.next c.in-Some-index_in.index c.args.frame.now.locals after c.in-Long.x is there refl in
    space_for (does c.args.program.now c.args.own.now Laload c.args.next c.args.frame.now.locals c.args.frame.now.stack.values c.args.heap.now) c.args.next c.args.frame.now.locals (Long c.in-Long.x) c.args.frame.now.stack c.pop_int-i.new.self c.pop_object.new.self c.args.heap.now row
    (ap (λ (s : Stacked). s.room) c.pop_int-i.ensures) (ap (λ (s : Stacked). s.room) c.pop_object.ensures) c.requires.room
