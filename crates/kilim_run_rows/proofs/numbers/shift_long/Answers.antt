use Rattle.std.proofs.Common.{◌≡◌, FitsSigned, rules, w32, w64, ◌∷◌, ap, refl}
use Rattle.std.proofs.lemmas.Int.{to_z-of_z}
use Rattle.kilim_program.specs.declared.value.Value.TheVariants.{Long}
use Rattle.kilim_run_rows.specs.Operations.{long_shift_of}
use Rattle.kilim_run_machine.specs.Does.{long_shift}
use Rattle.kilim_run_state.specs.frames.Stacked.{Stacked}
use Rattle.kilim_run_rows.proofs.Space.{space_for}
use Rattle.kilim_run_rows.proofs.Arithmetic.{shift_left}
use Rattle.kilim_run_rows.proofs.numbers.shift_long.Goals as goal

pub returns-clause-step : goal.returns-clause-step
returns-clause-step c =
    let fits_a : FitsSigned w64 c.pop_long-a.result = search rules in
    let fits_b : FitsSigned w32 c.pop_int-b.result = search rules in
    let fits : FitsSigned w64 c.of_longs.result = search rules in
    let is : c.of_longs.result ≡ long_shift_of c.args.shift c.pop_long-a.result c.pop_int-b.result = simp to_z-of_z at c.of_longs.ensures in
    let pushed : c.push.new.self ≡ record c.pop_long-a.new.self { values = Long c.of_longs.result ∷ c.pop_long-a.new.self.values } = simp to_z-of_z at c.push.ensures in
    shift_left (long_shift_of c.args.shift) c.args.next c.args.frame.now.locals c.args.frame.now.stack c.pop_int-b.new.self c.pop_long-a.new.self c.push.new.self c.args.heap.now c.pop_long-a.result c.pop_int-b.result c.of_longs.result
    c.pop_int-b.ensures c.pop_long-a.ensures pushed is

pub push-requires : goal.push-requires
push-requires c =
    let after : Stacked = record c.pop_long-a.new.self { values = Long (long_shift_of c.args.shift c.pop_long-a.result c.pop_int-b.result) ∷ c.pop_long-a.new.self.values } in
    let row = shift_left (long_shift_of c.args.shift) c.args.next c.args.frame.now.locals c.args.frame.now.stack c.pop_int-b.new.self c.pop_long-a.new.self after c.args.heap.now c.pop_long-a.result c.pop_int-b.result (long_shift_of c.args.shift c.pop_long-a.result c.pop_int-b.result) c.pop_int-b.ensures c.pop_long-a.ensures refl refl in
    space_for (long_shift (long_shift_of c.args.shift) c.args.next c.args.frame.now.locals c.args.frame.now.stack.values c.args.heap.now) c.args.next c.args.frame.now.locals (Long (long_shift_of c.args.shift c.pop_long-a.result c.pop_int-b.result)) c.args.frame.now.stack c.pop_int-b.new.self c.pop_long-a.new.self c.args.heap.now row (ap (λ (s : Stacked). s.room) c.pop_int-b.ensures) (ap (λ (s : Stacked). s.room) c.pop_long-a.ensures) c.requires.room
