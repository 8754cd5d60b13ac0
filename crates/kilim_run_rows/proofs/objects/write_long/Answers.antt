use Rattle.std.proofs.Common.{refl, ◌≡◌, ◌∙◌, sym, ap, FitsSigned, rules, w32, w64, pos, None}
use Rattle.std.proofs.lemmas.Int.{to_z-of_z}
use Rattle.kilim_program.specs.declared.value.Value.TheVariants.{Long}
use Rattle.kilim_run_machine.specs.Effect.{Goes}
use Rattle.kilim_run_state.specs.Machine.{Objects}
use Rattle.kilim_run_state.specs.Words.{with_element}
use Rattle.kilim_run_rows.specs.Outcome.{found_in}
use Rattle.kilim_run_rows.proofs.Elements.{long_written, no_long_place}
use Rattle.kilim_run_rows.proofs.objects.write_long.Goals as goal

pub returns-in_default-index_in-clause-step : goal.returns-in_default-index_in-clause-step
returns-in_default-index_in-clause-step c =
    let fits : FitsSigned w32 c.pop_int-i.result = search rules in
    let none : found_in c.args.heap.now c.in-Some.at c.pop_int-i.result ≡ None = simp to_z-of_z at (rw c.in_default-index_in.is at c.index_in.ensures) in
    (no_long_place c.args.heap.now c.pop_long-x.new.self c.pop_int-i.new.self c.pop_object.new.self c.pop_int-i.result c.in-Some.at c.pop_int-i.ensures (rw c.in-Some.is at c.pop_object.ensures) c.args.program.now c.args.own.now c.args.next c.args.frame.now.locals c.args.frame.now.stack c.pop_long-x.result c.pop_long-x.ensures c.requires.fine none, refl, refl, refl)

pub returns-clause-step : goal.returns-clause-step
returns-clause-step c =
    let fits_i : FitsSigned w32 c.pop_int-i.result = search rules in
    let fits_x : FitsSigned w64 c.pop_long-x.result = search rules in
    let there = rw c.in-Some-index_in.is at c.index_in.ensures in
    let is : c.pop_int-i.result ≡ pos c.in-Some-index_in.index = simp to_z-of_z at there.0 in
    let new : c.set_element.new.self ≡ with_element c.args.heap.now c.in-Some.at c.in-Some-index_in.index (Long c.pop_long-x.result) = simp to_z-of_z at c.set_element.ensures in
    long_written c.args.heap.now c.pop_long-x.new.self c.pop_int-i.new.self c.pop_object.new.self c.pop_int-i.result c.in-Some.at c.pop_int-i.ensures (rw c.in-Some.is at c.pop_object.ensures)
    c.args.program.now c.args.own.now c.args.next c.in-Some-index_in.index c.args.frame.now.locals c.args.frame.now.stack c.pop_long-x.result c.pop_long-x.ensures is there.1
    ∙ ap (λ (h : Objects). Goes c.args.next c.args.frame.now.locals c.pop_object.new.self.values h) (sym new)
