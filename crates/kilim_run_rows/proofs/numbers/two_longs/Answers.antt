use Rattle.std.proofs.Common.{◌≡◌, FitsSigned, rules, w64, ◌∷◌, ap, refl}
use Rattle.std.proofs.lemmas.Int.{to_z-of_z}
use Rattle.kilim_program.specs.declared.value.Value.TheVariants.{Long}
use Rattle.kilim_run_rows.specs.Operations.{long_of}
use Rattle.kilim_run_machine.specs.Does.{long_binary}
use Rattle.kilim_run_state.specs.frames.Stacked.{Stacked}
use Rattle.kilim_run_rows.proofs.Space.{space_for}
use Rattle.kilim_run_rows.proofs.Arithmetic.{longs_left}
use Rattle.kilim_run_rows.proofs.numbers.two_longs.Goals as goal

pub returns-clause-step : goal.returns-clause-step
returns-clause-step c =
    let fits_a : FitsSigned w64 c.pop_long-a.result = search rules in
    let fits_b : FitsSigned w64 c.pop_long-b.result = search rules in
    let fits : FitsSigned w64 c.of_longs.result = search rules in
    let is : c.of_longs.result ≡ long_of c.args.operation c.pop_long-a.result c.pop_long-b.result = simp to_z-of_z at c.of_longs.ensures in
    let pushed : c.push.new.self ≡ record c.pop_long-a.new.self { values = Long c.of_longs.result ∷ c.pop_long-a.new.self.values } = simp to_z-of_z at c.push.ensures in
    longs_left (long_of c.args.operation) c.args.next c.args.frame.now.locals c.args.frame.now.stack c.pop_long-b.new.self c.pop_long-a.new.self c.push.new.self c.args.heap.now c.pop_long-a.result c.pop_long-b.result c.of_longs.result
    c.pop_long-b.ensures c.pop_long-a.ensures pushed is

pub push-requires : goal.push-requires
push-requires c =
    let after : Stacked = record c.pop_long-a.new.self { values = Long (long_of c.args.operation c.pop_long-a.result c.pop_long-b.result) ∷ c.pop_long-a.new.self.values } in
    let row = longs_left (long_of c.args.operation) c.args.next c.args.frame.now.locals c.args.frame.now.stack c.pop_long-b.new.self c.pop_long-a.new.self after c.args.heap.now c.pop_long-a.result c.pop_long-b.result (long_of c.args.operation c.pop_long-a.result c.pop_long-b.result) c.pop_long-b.ensures c.pop_long-a.ensures refl refl in
    space_for (long_binary (long_of c.args.operation) c.args.next c.args.frame.now.locals c.args.frame.now.stack.values c.args.heap.now) c.args.next c.args.frame.now.locals (Long (long_of c.args.operation c.pop_long-a.result c.pop_long-b.result)) c.args.frame.now.stack c.pop_long-b.new.self c.pop_long-a.new.self c.args.heap.now row (ap (λ (s : Stacked). s.room) c.pop_long-b.ensures) (ap (λ (s : Stacked). s.room) c.pop_long-a.ensures) c.requires.room
