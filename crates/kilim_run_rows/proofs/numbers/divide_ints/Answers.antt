use Rattle.std.proofs.Common.{◌≡◌, ap, ℤ, pos, FitsSigned, rules, w32, ◌∷◌, refl}
use mir.Val.{of_z}
use Rattle.std.proofs.lemmas.Int.{to_z-of_z}
use Rattle.kilim_program.specs.declared.value.Value.TheVariants.{Int}
use Rattle.kilim_run_rows.specs.Operations.{int_quotient}
use Rattle.kilim_run_machine.specs.Does.{int_division}
use Rattle.kilim_run_state.specs.frames.Stacked.{Stacked}
use Rattle.kilim_run_rows.proofs.Space.{space_for}
use Rattle.kilim_run_rows.proofs.Arithmetic.{ints_divided}
use Rattle.kilim_run_rows.proofs.numbers.divide_ints.Goals as goal

pub returns-clause-step : goal.returns-clause-step
returns-clause-step c =
    let fits_a : FitsSigned w32 c.pop_int-a.result = search rules in
    let fits_b : FitsSigned w32 c.pop_int-b.result = search rules in
    let fits : FitsSigned w32 c.of_ints.result = search rules in
    let is : c.of_ints.result ≡ int_quotient c.args.division c.pop_int-a.result c.pop_int-b.result = simp to_z-of_z at c.of_ints.ensures in
    let pushed : c.push.new.self ≡ record c.pop_int-a.new.self { values = Int c.of_ints.result ∷ c.pop_int-a.new.self.values } = simp to_z-of_z at c.push.ensures in
    ints_divided (int_quotient c.args.division) c.args.next c.args.frame.now.locals c.args.frame.now.stack c.pop_int-b.new.self c.pop_int-a.new.self c.push.new.self c.args.heap.now c.pop_int-a.result c.pop_int-b.result c.of_ints.result
    c.pop_int-b.ensures c.pop_int-a.ensures (λ (zero : c.pop_int-b.result ≡ pos 0). c.if-b-eq0.false (ap (λ (x : ℤ). of_z w32 x) zero)) pushed is

pub push-requires : goal.push-requires
push-requires c =
    let after : Stacked = record c.pop_int-a.new.self { values = Int (int_quotient c.args.division c.pop_int-a.result c.pop_int-b.result) ∷ c.pop_int-a.new.self.values } in
    let row = ints_divided (int_quotient c.args.division) c.args.next c.args.frame.now.locals c.args.frame.now.stack c.pop_int-b.new.self c.pop_int-a.new.self after c.args.heap.now c.pop_int-a.result c.pop_int-b.result (int_quotient c.args.division c.pop_int-a.result c.pop_int-b.result) c.pop_int-b.ensures c.pop_int-a.ensures (λ (zero : c.pop_int-b.result ≡ pos 0). c.if-b-eq0.false (ap (λ (x : ℤ). of_z w32 x) zero)) refl refl in
    space_for (int_division (int_quotient c.args.division) c.args.next c.args.frame.now.locals c.args.frame.now.stack.values c.args.heap.now) c.args.next c.args.frame.now.locals (Int (int_quotient c.args.division c.pop_int-a.result c.pop_int-b.result)) c.args.frame.now.stack c.pop_int-b.new.self c.pop_int-a.new.self c.args.heap.now row (ap (λ (s : Stacked). s.room) c.pop_int-b.ensures) (ap (λ (s : Stacked). s.room) c.pop_int-a.ensures) c.requires.room
