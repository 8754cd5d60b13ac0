use Rattle.std.proofs.Common.{◌≡◌, ap, ℤ, pos, FitsSigned, rules, w64, ◌∷◌, refl}
use mir.Val.{of_z}
use Rattle.std.proofs.lemmas.Int.{to_z-of_z}
use Rattle.kilim_program.specs.declared.value.Value.TheVariants.{Long}
use Rattle.kilim_run_rows.specs.Operations.{long_quotient}
use Rattle.kilim_run_machine.specs.Does.{long_division}
use Rattle.kilim_run_state.specs.frames.Stacked.{Stacked}
use Rattle.kilim_run_rows.proofs.Space.{space_for}
use Rattle.kilim_run_rows.proofs.Arithmetic.{longs_divided}
use Rattle.kilim_run_rows.proofs.numbers.divide_longs.Goals as goal

pub returns-clause-step : goal.returns-clause-step
returns-clause-step c =
    let fits_a : FitsSigned w64 c.pop_long-a.result = search rules in
    let fits_b : FitsSigned w64 c.pop_long-b.result = search rules in
    let fits : FitsSigned w64 c.of_longs.result = search rules in
    let is : c.of_longs.result ≡ long_quotient c.args.division c.pop_long-a.result c.pop_long-b.result = simp to_z-of_z at c.of_longs.ensures in
    let pushed : c.push.new.self ≡ record c.pop_long-a.new.self { values = Long c.of_longs.result ∷ c.pop_long-a.new.self.values } = simp to_z-of_z at c.push.ensures in
    longs_divided (long_quotient c.args.division) c.args.next c.args.frame.now.locals c.args.frame.now.stack c.pop_long-b.new.self c.pop_long-a.new.self c.push.new.self c.args.heap.now c.pop_long-a.result c.pop_long-b.result c.of_longs.result
    c.pop_long-b.ensures c.pop_long-a.ensures (λ (zero : c.pop_long-b.result ≡ pos 0). c.if-b-eq0.false (ap (λ (x : ℤ). of_z w64 x) zero)) pushed is

pub push-requires : goal.push-requires
push-requires c =
    let after : Stacked = record c.pop_long-a.new.self { values = Long (long_quotient c.args.division c.pop_long-a.result c.pop_long-b.result) ∷ c.pop_long-a.new.self.values } in
    let row = longs_divided (long_quotient c.args.division) c.args.next c.args.frame.now.locals c.args.frame.now.stack c.pop_long-b.new.self c.pop_long-a.new.self after c.args.heap.now c.pop_long-a.result c.pop_long-b.result (long_quotient c.args.division c.pop_long-a.result c.pop_long-b.result) c.pop_long-b.ensures c.pop_long-a.ensures (λ (zero : c.pop_long-b.result ≡ pos 0). c.if-b-eq0.false (ap (λ (x : ℤ). of_z w64 x) zero)) refl refl in
    space_for (long_division (long_quotient c.args.division) c.args.next c.args.frame.now.locals c.args.frame.now.stack.values c.args.heap.now) c.args.next c.args.frame.now.locals (Long (long_quotient c.args.division c.pop_long-a.result c.pop_long-b.result)) c.args.frame.now.stack c.pop_long-b.new.self c.pop_long-a.new.self c.args.heap.now row (ap (λ (s : Stacked). s.room) c.pop_long-b.ensures) (ap (λ (s : Stacked). s.room) c.pop_long-a.ensures) c.requires.room
